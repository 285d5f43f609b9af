-- The causes of answers exclude one another: a file without a fault whose nodes can be compiled is built.
use Rattle.std.proofs.Common.{◌≡◌, ◌<◌, ◌≤◌, ◌⊎◌, inl, inr, ℕ, List, length, refl, sym, ap, subst, arith, Option, Some, None}
use Rattle.std.specs.Prelude.{IfSome, Ok, Err}
use Rattle.hph_src.specs.Files as src
use Rattle.hph_src.specs.Files.{file_at}
use Rattle.hph_ast.specs.declared.program.FileTree.{FileTree}
use Rattle.hph_ast.specs.declared.refusal.LimitName.TheVariants.{FileBytes, AllBytes, Files, ModuleBytes}
use Rattle.hph_ast.specs.declared.refusal.Refusal.{Refusal}
use Rattle.hph_ast.specs.declared.refusal.Refusal.TheVariants.{Lex, Construct, TooDeep, Syntax, Missing, Limit, MixedByRef, PrivateShadow, RefArgument}
use Rattle.hph_ast.specs.Faults.{FileFault, FirstFault}
use Rattle.hph_file.specs.Answers.{IsRead}
use Rattle.hph_text.specs.Texts.{file_texts}
use Rattle.hph_drive.specs.declared.status.Status.{Status}
use Rattle.hph_drive.specs.declared.status.Status.TheVariants.{Built, Usage, Refused, Unlowered, ReadFault, WriteFault, NoMemory}
use Rattle.hph_drive.specs.Answers.{SaysOfFile, Succeeds, ShowsFault, HasFault, ShowsUnlowered, IsSource}
use Rattle.hph_compile.specs.Sources.{file_limit}

-- what is known of files
pub record OneTree : Type 0 where
  pub tree : (bytes : List ℕ) (x y : FileTree) → IsRead bytes x → IsRead bytes y → x ≡ y
  pub no_fault : (bytes : List ℕ) (tree : FileTree) (fault : FileFault) → IsRead bytes tree → FirstFault bytes (Some fault) → ⊥

-- a file is one list of bytes
one_file : (file : Option (List ℕ)) (first second : List ℕ) → file ≡ Some first → file ≡ Some second → first ≡ second
one_file file first second p q = cc

no_fault_here : OneTree → (file : Option (List ℕ)) (source : List ℕ) (tree : FileTree) (fault : FileFault) → IsSource file source → IsRead source tree → HasFault file fault → ⊥
no_fault_here law file source tree fault is read found =
    law.no_fault source tree fault read (subst (λ s. FirstFault s (Some fault)) (one_file file found.0 source found.1.0 is.0) found.2)

not_refused : OneTree → (file : Option (List ℕ)) (source : List ℕ) (tree : FileTree) (refusal : Refusal) → IsSource file source → IsRead source tree → ShowsFault file refusal → ⊥
not_refused law file source tree (Missing path) is read missing = let is_there = is.0 in cc
not_refused law file source tree (Limit FileBytes path) is read long =
    let same : long.0 ≡ source = one_file file long.0 source long.1 is.0 in
    let lengths = ap length same in
    let short : length source ≤ file_limit = is.1 in
    let larger : file_limit < length long.0 = long.2 in
    omega arith
not_refused law file source tree (Lex kind spot) is read found = no_fault_here law file source tree _ is read found
not_refused law file source tree (Construct kind spot) is read found = no_fault_here law file source tree _ is read found
not_refused law file source tree (TooDeep spot) is read found = no_fault_here law file source tree _ is read found
not_refused law file source tree (Syntax spot) is read found = no_fault_here law file source tree _ is read found
not_refused law file source tree (Limit AllBytes path) is read never = never
not_refused law file source tree (Limit Files path) is read never = never
not_refused law file source tree (Limit ModuleBytes path) is read never = never
not_refused law file source tree (MixedByRef first second) is read never = never
not_refused law file source tree (PrivateShadow first second) is read never = never
not_refused law file source tree (RefArgument spot) is read never = never

not_unlowered : OneTree → (file : Option (List ℕ)) (source : List ℕ) (tree : FileTree) (texts : List (List ℕ)) (offset : ℕ) → IsSource file source → IsRead source tree →
    file_texts tree ≡ Ok texts → ShowsUnlowered file offset → ⊥
not_unlowered law file source tree texts offset is read prints found =
    let other = found.2.0 in
    let there : IsRead source other = subst (λ s. IsRead s other) (one_file file found.0 source found.1.0 is.0) found.2.1 in
    let same : other ≡ tree = law.tree source other tree there read in
    let not_there : file_texts tree ≡ Err offset = subst (λ t. file_texts t ≡ Err offset) same found.2.2 in
    absurd (cc)

-- what an answer says leaves one that isn't a fault no other choice
pub says-succeeds : OneTree → (file old new : Option (List ℕ)) (read_failed write_failed : Type 0) (status : Status) →
    SaysOfFile file old new status → (status ≡ ReadFault → read_failed) → (status ≡ WriteFault → write_failed) → Succeeds file read_failed write_failed status
says-succeeds law file old new rf wf Built says reads writes source tree texts is read prints no_read no_write = inl refl
says-succeeds law file old new rf wf Usage says reads writes source tree texts is read prints no_read no_write = absurd says
says-succeeds law file old new rf wf (Refused refusal) says reads writes source tree texts is read prints no_read no_write =
    absurd (not_refused law file source tree refusal is read says)
says-succeeds law file old new rf wf (Unlowered spot) says reads writes source tree texts is read prints no_read no_write =
    absurd (not_unlowered law file source tree texts spot.offset is read prints says)
says-succeeds law file old new rf wf ReadFault says reads writes source tree texts is read prints no_read no_write = absurd (no_read (reads refl))
says-succeeds law file old new rf wf WriteFault says reads writes source tree texts is read prints no_read no_write = absurd (no_write (writes refl))
says-succeeds law file old new rf wf NoMemory says reads writes source tree texts is read prints no_read no_write = inr refl

-- the same where the files may not be told
pub told-succeeds : OneTree → (files : Option src.Files) (path : List ℕ) (old new : Option (List ℕ)) (read_failed write_failed : Type 0) (status : Status) →
    IfSome files (λ files. SaysOfFile (file_at files path) old new status) → (status ≡ ReadFault → read_failed) → (status ≡ WriteFault → write_failed) →
    IfSome files (λ files. Succeeds (file_at files path) read_failed write_failed status)
told-succeeds law None path old new rf wf status says reads writes = tt
told-succeeds law (Some files) path old new rf wf status says reads writes = says-succeeds law (file_at files path) old new rf wf status says reads writes

succeeds-again : (file : Option (List ℕ)) (rf wf : Type 0) (status result : Status) → Succeeds file rf wf status → (result ≡ status) ⊎ (result ≡ NoMemory) → Succeeds file rf wf result
succeeds-again file rf wf status result succeeds (inl same) = subst (Succeeds file rf wf) (sym same) succeeds
succeeds-again file rf wf status result succeeds (inr lost) = λ source tree texts is read prints no_read no_write. inr lost

-- and once the line was written
pub succeeds_after_line : (main : Option (List ℕ)) (files : Option src.Files) (rf wf : Type 0) (status result : Status) →
    IfSome main (λ path. IfSome files (λ files. Succeeds (file_at files path) rf wf status)) → (result ≡ status) ⊎ (result ≡ NoMemory) →
    IfSome main (λ path. IfSome files (λ files. Succeeds (file_at files path) rf wf result))
succeeds_after_line None files rf wf status result succeeds same = tt
succeeds_after_line (Some path) None rf wf status result succeeds same = tt
succeeds_after_line (Some path) (Some files) rf wf status result succeeds same = succeeds-again (file_at files path) rf wf status result succeeds same
