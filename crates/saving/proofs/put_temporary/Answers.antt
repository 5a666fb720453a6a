use Rattle.std.proofs.Common.{refl}
use Rattle.saving.proofs.Naming.{temporary_put}
use Rattle.saving.proofs.put_temporary.Goals as goal

pub returns : goal.returns
returns c =
    let a = c.copy_from_slice.ensures.after in
    let b = c.copy_from_slice-2.ensures.after in
    rw (b, a) (temporary_put c.args.name.now c.args.memory.now _ c.folder_end-n.result c.folder_end-n.ensures.0 c.folder_end-n.ensures.1 c.requires.1 refl)
