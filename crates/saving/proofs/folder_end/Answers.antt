use Rattle.std.proofs.Common.{sym, arith}
use Rattle.saving.proofs.Naming.{no_folder, folder}
use Rattle.saving.proofs.folder_end.Goals as goal

pub returns-in-None : goal.returns-in-None
returns-in-None c = (sym (no_folder c.args.name.now c.in-None.ensures), omega arith)

pub returns-in-Some : goal.returns-in-Some
returns-in-Some c =
    let is = c.in-Some.ensures in
    (sym (folder c.args.name.now c.in-Some.i is.0 is.1 is.2), omega (arith, is.0))
