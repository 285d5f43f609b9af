use Rattle.std.proofs.Common.{◌<◌, sym, subst}
use Rattle.hph_sys.specs.Typings.{In}
use Rattle.hph_plain.proofs.work_list.raise.Goals as goal

pub wake-requires : goal.wake-requires
wake-requires g c = λ scope stands.
    subst (λ n. scope < n) (sym c.requires.waiting)
    ((g.met.S.System.laws c.args.system.now).readers_in c.args.cell scope c.requires.cell
    (subst (In scope) c.readers.ensures stands))
