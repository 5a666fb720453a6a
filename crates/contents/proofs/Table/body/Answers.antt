-- `contents::Table::body` meets its contract. Assumes nothing.
use mathlib.Core.Path.{refl}
use Rattle.contents.proofs.Cut.{start_fits, words_fit, bytes_fit, end_fits, ends-within, cut_is}
use Rattle.contents.proofs.Table.body.Goals as goal

pub overflow_mul-start : goal.overflow_mul-start
overflow_mul-start c = start_fits _ _ _ c.args.self.placed

pub overflow_mul-end : goal.overflow_mul-end
overflow_mul-end c = words_fit _ _ _ c.args.self.placed _ c.width_of.ensures

pub overflow_mul-end-2 : goal.overflow_mul-end-2
overflow_mul-end-2 c = bytes_fit _ _ _ c.args.self.placed _ c.width_of.ensures

pub overflow_add-end : goal.overflow_add-end
overflow_add-end c = end_fits _ _ _ c.args.self.placed _ c.width_of.ensures

pub slice_bounds-result-end : goal.slice_bounds-result-end
slice_bounds-result-end c = let ends = ends-within _ _ _ c.args.self.placed _ c.width_of.ensures in search

pub returns : goal.returns
returns c = cut_is _ _ _ c.args.self.placed _ c.width_of.ensures _ refl
