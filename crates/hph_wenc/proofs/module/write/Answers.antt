use Rattle.std.proofs.lemmas.List.{length-map}
use Rattle.hph_wenc.specs.Fits.{ModuleFits}
use Rattle.hph_wenc.proofs.ShortSections.{sections_short, codes_short, section_bytes-map, spelling-sections}
use Rattle.hph_wenc.proofs.module.write.Goals as goal

pub codes-requires-clause-short : goal.codes-requires-clause-short
codes-requires-clause-short c = rw c.as_slice-3.ensures (codes_short c.args.m.now.funcs (sections_short c.args.m.now c.requires.short).codes.short)

pub put_section-requires : goal.put_section-requires
put_section-requires c = let section = (sections_short c.args.m.now c.requires.short).types in rw c.as_slice-4.ensures (record { few = section.few; short = section.short })

pub put_section-requires-2 : goal.put_section-requires-2
put_section-requires-2 c = let section = (sections_short c.args.m.now c.requires.short).imports in rw c.as_slice-5.ensures (record { few = section.few; short = section.short })

pub put_section-requires-3 : goal.put_section-requires-3
put_section-requires-3 c =
    let section = (sections_short c.args.m.now c.requires.short).functions in
    rw (c.deref.ensures.value, c.in_ok-indices.ensures, c.as_slice.ensures) (record { few = rw length-map section.few; short = rw section_bytes-map section.short })

pub put_section-requires-4 : goal.put_section-requires-4
put_section-requires-4 c =
    let section = (sections_short c.args.m.now c.requires.short).tables in
    rw (c.deref-2.ensures.value, c.in_ok-tables.ensures, c.as_slice-2.ensures) (record { few = section.few; short = section.short })

pub put_section-requires-5 : goal.put_section-requires-5
put_section-requires-5 c = let section = (sections_short c.args.m.now c.requires.short).memories in rw c.as_slice-6.ensures (record { few = section.few; short = section.short })

pub put_section-requires-6 : goal.put_section-requires-6
put_section-requires-6 c = let section = (sections_short c.args.m.now c.requires.short).globals in rw c.as_slice-7.ensures (record { few = section.few; short = section.short })

pub put_section-requires-7 : goal.put_section-requires-7
put_section-requires-7 c = let section = (sections_short c.args.m.now c.requires.short).exports in rw c.as_slice-8.ensures (record { few = section.few; short = section.short })

pub put_section-requires-8 : goal.put_section-requires-8
put_section-requires-8 c = let section = (sections_short c.args.m.now c.requires.short).elements in rw c.as_slice-9.ensures (record { few = section.few; short = section.short })

pub put_section-requires-9 : goal.put_section-requires-9
put_section-requires-9 c =
    let section = (sections_short c.args.m.now c.requires.short).codes in
    rw (c.deref-3.ensures.value, c.in_ok-codes.ensures.contents, c.as_slice-3.ensures) (record { few = rw length-map section.few; short = rw section_bytes-map section.short })

pub put_section-requires-10 : goal.put_section-requires-10
put_section-requires-10 c = let section = (sections_short c.args.m.now c.requires.short).segments in rw c.as_slice-10.ensures (record { few = section.few; short = section.short })

-- what is asked of each section's things
fits_of : (c : goal.After-drop-indices-2) → ModuleFits c.args.m.now
fits_of c = record {
  imports = rw c.as_slice-5.ensures at c.in_ok-put_section-2.ensures.fit;
  functions = rw (c.deref.ensures.value, c.in_ok-indices.ensures, c.as_slice.ensures) at c.in_ok-put_section-3.ensures.fit;
  tables = rw (c.deref-2.ensures.value, c.in_ok-tables.ensures, c.as_slice-2.ensures) at c.in_ok-put_section-4.ensures.fit;
  memories = rw c.as_slice-6.ensures at c.in_ok-put_section-5.ensures.fit;
  globals = rw c.as_slice-7.ensures at c.in_ok-put_section-6.ensures.fit;
  exports = rw c.as_slice-8.ensures at c.in_ok-put_section-7.ensures.fit;
  elements = rw c.as_slice-9.ensures at c.in_ok-put_section-8.ensures.fit;
  codes = rw c.as_slice-3.ensures at c.in_ok-codes.ensures.fit;
  segments = rw c.as_slice-10.ensures at c.in_ok-put_section-10.ensures.fit;
}

pub returns-clause-shortest : goal.returns-clause-shortest
returns-clause-shortest c = rw (
  c.in_ok-put_section-10.ensures.put,
  c.as_slice-10.ensures,
  c.in_ok-put_section-9.ensures.put,
  c.deref-3.ensures.value,
  c.in_ok-codes.ensures.contents,
  c.as_slice-3.ensures,
  section_bytes-map,
  c.in_ok-put_section-8.ensures.put,
  c.as_slice-9.ensures,
  c.in_ok-put_section-7.ensures.put,
  c.as_slice-8.ensures,
  c.in_ok-put_section-6.ensures.put,
  c.as_slice-7.ensures,
  c.in_ok-put_section-5.ensures.put,
  c.as_slice-6.ensures,
  c.in_ok-put_section-4.ensures.put,
  c.deref-2.ensures.value,
  c.in_ok-tables.ensures,
  c.as_slice-2.ensures,
  c.in_ok-put_section-3.ensures.put,
  c.deref.ensures.value,
  c.in_ok-indices.ensures,
  c.as_slice.ensures,
  section_bytes-map,
  c.in_ok-put_section-2.ensures.put,
  c.as_slice-5.ensures,
  c.in_ok-put_section.ensures.put,
  c.as_slice-4.ensures,
  c.in_ok-out.ensures.items,
) (spelling-sections c.args.m.now)

pub returns-clause-spelled : goal.returns-clause-spelled
returns-clause-spelled c = rw (returns-clause-shortest c) (c.spellings_are_spelled.ensures c.args.m.now c.requires (fits_of c))
