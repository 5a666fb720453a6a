-- `writing::put_contents` meets its contract. Assumes nothing.
use Rattle.writing.specs.Contents.{put_contents}
use Rattle.writing.proofs.put_contents.Goals as goal

pub returns : goal.returns
unfolding put_contents
returns c = cc
