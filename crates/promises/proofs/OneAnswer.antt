-- Each public operation's statement is complete: two answers that satisfy what its contract ensures, to the same input, are the same. `Learnt` is what a caller
-- learns from the operation's own contract, so a contract that said less would not do. Assumes nothing.
use mathlib.Core.Path.{◌≡◌, sym, ap, ◌∙◌}
use seplogic.Ra.Ura.{Ura}
use base.Logic.{SProp, ent, emp, via}
use prog.Memory.{Memory}
use prog.Routine.{Routine}
use mir.Syntax.{Dict}
use types.Logic.{Logic}
use contract.Conj.{conj, conj_r}
use contract.Lifetimes.{Lfts}
use contract.Monad.{Fun, fact, fact_mono, guard-conj}
use denote.RattleType.{RattleType}
use denote.Param.Laws.{Laws, IsCopy}
use denote.Triple.Clauses.{AtExit}
use denote.Triple.Entry.{Args, Res}
use borrow.Fn.Kinds.{Dens, res_t, ended_of}
use Rattle.std.specs.declared.clone.Clone.{Ghosts as Copied}
use Rattle.sheet_check.proofs.check.Kinds as check-kinds
use Rattle.sheet_check.proofs.check.Reads as check-reads
use Rattle.convert.proofs.geographic_to_plane.Kinds as forward-kinds
use Rattle.convert.proofs.geographic_to_plane.Reads as forward-reads
use Rattle.convert.proofs.plane_to_geographic.Kinds as inverse-kinds
use Rattle.convert.proofs.plane_to_geographic.Reads as inverse-reads
use Rattle.convert.proofs.convergence_and_scale.Kinds as grid-kinds
use Rattle.convert.proofs.convergence_and_scale.Reads as grid-reads
use Rattle.touched.proofs.geographic_touched.Kinds as geographic-kinds
use Rattle.touched.proofs.geographic_touched.Reads as geographic-reads
use Rattle.touched.proofs.plane_touched.Kinds as plane-kinds
use Rattle.touched.proofs.plane_touched.Reads as plane-reads
use Rattle.correct.proofs.correct.Kinds as correct-kinds
use Rattle.correct.proofs.correct.Reads as correct-reads
use Rattle.batch.proofs.batch.Kinds as batch-kinds
use Rattle.batch.proofs.batch.Reads as batch-reads
use Rattle.counts.proofs.whole_of.Kinds as whole_Kinds
use Rattle.counts.proofs.whole_of.Reads as whole-reads
use Rattle.door.proofs.geographic_to_plane.Kinds as door-forward-kinds
use Rattle.door.proofs.geographic_to_plane.Reads as door-forward-reads
use Rattle.door.proofs.plane_to_geographic.Kinds as door-inverse-kinds
use Rattle.door.proofs.plane_to_geographic.Reads as door-inverse-reads
use Rattle.door.proofs.convergence_and_scale.Kinds as door-grid-kinds
use Rattle.door.proofs.convergence_and_scale.Reads as door-grid-reads
use Rattle.door.proofs.feet.Kinds as feet-kinds
use Rattle.door.proofs.feet.Reads as feet-reads
use Rattle.lines.proofs.answer.Kinds as line-kinds
use Rattle.lines.proofs.answer.Reads as line_reads_lem
use Rattle.compared.proofs.compare_line.Kinds as compared-kinds
use Rattle.compared.proofs.compare_line.Reads as compared-reads
use Rattle.point_line.proofs.line_of.Kinds as asked-kinds
use Rattle.point_line.proofs.line_of.Reads as asked-reads
use Rattle.decimal.proofs.byte_at.Kinds as byte-kinds
use Rattle.decimal.proofs.byte_at.Reads as byte-Reads
use Rattle.decimal.proofs.number_at.Kinds as number-kinds
use Rattle.decimal.proofs.number_at.Reads as number-reads
use Rattle.fields.proofs.field_at.Kinds as field-kinds
use Rattle.fields.proofs.field_at.Reads as field-reads
use Rattle.fields.proofs.last_at.Kinds as last-kinds
use Rattle.fields.proofs.last_at.Reads as last-reads
use Rattle.stream.proofs.line_end.Kinds as end-kinds
use Rattle.stream.proofs.line_end.Reads as end_reads
use Rattle.stream.proofs.keep.Kinds as keep-kinds
use Rattle.stream.proofs.keep.Reads as keep-reads
use Rattle.answering.specs.declared.Answers.{Ghosts}
use Rattle.answering.proofs.answer_block.Kinds as block-kinds
use Rattle.answering.proofs.answer_block.Reads as block_reads
use Rattle.answering.proofs.answer_last.Kinds as rest-kinds
use Rattle.answering.proofs.answer_last.Reads as rest-reads
use Rattle.row_line.proofs.row_asked.Kinds as row-kinds
use Rattle.row_line.proofs.row_asked.Reads as row_reads
use Rattle.row_line.proofs.correct_by.Kinds as row-line-kinds
use Rattle.row_line.proofs.correct_by.Reads as row-line-reads
use Rattle.promises.proofs.Told.{same-number, same-touch, same-batch, same-check, same-plane, same-geographic, same-grid, same-door}
use Rattle.reader.specs.declared.Reader.{Reader}
use Rattle.reader.specs.contracts.new as new
use Rattle.reader.specs.contracts.moved as moved
use Rattle.reader.specs.contracts.next as next
use Rattle.reader.proofs.entry_at.Kinds as at-kinds
use Rattle.reader.proofs.entry_at.Reads as at_reads
use Rattle.reader.proofs.read_entry.Kinds as entry-kinds
use Rattle.reader.proofs.read_entry.Reads as entry-reads

-- `sheet_check::check`
pub one_check : (κs : Lfts 1) (sheet : Dens κs check-kinds.ps) (r t : (res_t check-kinds.r κs).Denot) (x y : AtExit (ended_of 1 check-kinds.ps check-kinds.r) κs)
    → check-reads.Learnt κs sheet r x → check-reads.Learnt κs sheet t y → r ≡ t
one_check κs sheet r t x y p q = same-check r t (p ∙ sym q)

-- `convert::geographic_to_plane`
pub one-plane : (κs : Lfts 1) (given : Dens κs forward-kinds.ps) (r t : (res_t forward-kinds.r κs).Denot) (x y : AtExit (ended_of 1 forward-kinds.ps forward-kinds.r) κs)
    → forward-reads.Learnt κs given r x → forward-reads.Learnt κs given t y → r ≡ t
one-plane κs given r t x y p q = same-plane r t (p ∙ sym q)

-- `convert::plane_to_geographic`
pub one-geographic : (κs : Lfts 1) (given : Dens κs inverse-kinds.ps) (r t : (res_t inverse-kinds.r κs).Denot) (x y : AtExit (ended_of 1 inverse-kinds.ps inverse-kinds.r) κs)
    → inverse-reads.Learnt κs given r x → inverse-reads.Learnt κs given t y → r ≡ t
one-geographic κs given r t x y p q = same-geographic r t (p ∙ sym q)

-- `convert::convergence_and_scale`
pub one-grid : (κs : Lfts 1) (given : Dens κs grid-kinds.ps) (r t : (res_t grid-kinds.r κs).Denot) (x y : AtExit (ended_of 1 grid-kinds.ps grid-kinds.r) κs)
    → grid-reads.Learnt κs given r x → grid-reads.Learnt κs given t y → r ≡ t
one-grid κs given r t x y p q = same-grid r t (p ∙ sym q)

-- `touched::geographic_touched`
pub one-geographic-touch : (κs : Lfts 1) (given : Dens κs geographic-kinds.ps) (r t : (res_t geographic-kinds.r κs).Denot) (x y : AtExit (ended_of 1 geographic-kinds.ps geographic-kinds.r) κs)
    → geographic-reads.Learnt κs given r x → geographic-reads.Learnt κs given t y → r ≡ t
one-geographic-touch κs given r t x y p q = same-touch r t (p ∙ sym q)

-- `touched::plane_touched`
pub one-plane-touch : (κs : Lfts 1) (given : Dens κs plane-kinds.ps) (r t : (res_t plane-kinds.r κs).Denot) (x y : AtExit (ended_of 1 plane-kinds.ps plane-kinds.r) κs)
    → plane-reads.Learnt κs given r x → plane-reads.Learnt κs given t y → r ≡ t
one-plane-touch κs given r t x y p q = same-touch r t (p ∙ sym q)

-- `correct::correct`: one number, and one content of the lent sheet
pub one_correction : (κs : Lfts 1) (given : Dens κs correct-kinds.ps) (r t : (res_t correct-kinds.r κs).Denot) (x y : AtExit (ended_of 1 correct-kinds.ps correct-kinds.r) κs)
    → correct-reads.Learnt κs given r x → correct-reads.Learnt κs given t y → (r ≡ t) × (x.0.now ≡ y.0.now)
one_correction κs given r t x y p q = (same-number r t (p.0 ∙ sym q.0), p.1 ∙ sym q.1)

-- `batch::batch`: one number and count, and one content of the answers' memory
pub one_batch : (κs : Lfts 3) (given : Dens κs batch-kinds.ps) (r t : (res_t batch-kinds.r κs).Denot) (x y : AtExit (ended_of 3 batch-kinds.ps batch-kinds.r) κs)
    → batch-reads.Learnt κs given r x → batch-reads.Learnt κs given t y → (r ≡ t) × (x.1.1.0.now ≡ y.1.1.0.now)
one_batch κs given r t x y p q = (same-batch r t (p.0 ∙ sym q.0), p.1 ∙ sym q.1)

-- `counts::whole_of`
pub one-whole : (κs : Lfts 0) (given : Dens κs whole_Kinds.ps) (r t : (res_t whole_Kinds.r κs).Denot) (x y : AtExit (ended_of 0 whole_Kinds.ps whole_Kinds.r) κs)
    → whole-reads.Learnt κs given r x → whole-reads.Learnt κs given t y → r ≡ t
one-whole κs given r t x y p q = p ∙ sym q

-- `door::geographic_to_plane`
pub one_door_plane : (κs : Lfts 1) (given : Dens κs door-forward-kinds.ps) (r t : (res_t door-forward-kinds.r κs).Denot) (x y : AtExit (ended_of 1 door-forward-kinds.ps door-forward-kinds.r) κs)
    → door-forward-reads.Learnt κs given r x → door-forward-reads.Learnt κs given t y → r ≡ t
one_door_plane κs given r t x y p q = same-door r t (p ∙ sym q)

-- `door::plane_to_geographic`
pub one_door_geographic : (κs : Lfts 1) (given : Dens κs door-inverse-kinds.ps) (r t : (res_t door-inverse-kinds.r κs).Denot) (x y : AtExit (ended_of 1 door-inverse-kinds.ps door-inverse-kinds.r) κs)
    → door-inverse-reads.Learnt κs given r x → door-inverse-reads.Learnt κs given t y → r ≡ t
one_door_geographic κs given r t x y p q = same-door r t (p ∙ sym q)

-- `door::convergence_and_scale`
pub one_door_grid : (κs : Lfts 1) (given : Dens κs door-grid-kinds.ps) (r t : (res_t door-grid-kinds.r κs).Denot) (x y : AtExit (ended_of 1 door-grid-kinds.ps door-grid-kinds.r) κs)
    → door-grid-reads.Learnt κs given r x → door-grid-reads.Learnt κs given t y → r ≡ t
one_door_grid κs given r t x y p q = same-door r t (p ∙ sym q)

-- `door::feet`
pub one_feet : (κs : Lfts 0) (given : Dens κs feet-kinds.ps) (r t : (res_t feet-kinds.r κs).Denot) (x y : AtExit (ended_of 0 feet-kinds.ps feet-kinds.r) κs)
    → feet-reads.Learnt κs given r x → feet-reads.Learnt κs given t y → r ≡ t
one_feet κs given r t x y p q = p ∙ sym q

-- `lines::answer`: one place after the line, and one content of the output's memory
pub one_line : (κs : Lfts 3) (given : Dens κs line-kinds.ps) (r t : (res_t line-kinds.r κs).Denot) (x y : AtExit (ended_of 3 line-kinds.ps line-kinds.r) κs)
    → line_reads_lem.Learnt κs given r x → line_reads_lem.Learnt κs given t y → (r ≡ t) × (x.1.1.0.now ≡ y.1.1.0.now)
one_line κs given r t x y p q = (p.1.place ∙ sym q.1.place, p.1.bytes ∙ sym q.1.bytes)

-- `compared::compare_line`: one answer, and one content of the output's memory
pub one-compared : (κs : Lfts 4) (given : Dens κs compared-kinds.ps) (r t : (res_t compared-kinds.r κs).Denot) (x y : AtExit (ended_of 4 compared-kinds.ps compared-kinds.r) κs)
    → compared-reads.Learnt κs given r x → compared-reads.Learnt κs given t y → (r ≡ t) × (x.1.1.1.1.0.now ≡ y.1.1.1.1.0.now)
one-compared κs given r t x y p q =
    let one = p.1.1.1.1 in
    let two = q.1.1.1.1 in
    (rw (p.0 ∙ sym q.0, p.1.0 ∙ sym q.1.0, p.1.1.0 ∙ sym q.1.1.0, one.place ∙ sym two.place), one.bytes ∙ sym two.bytes)

-- `stream::line_end`
pub one_end : (κs : Lfts 1) (given : Dens κs end-kinds.ps) (r t : (res_t end-kinds.r κs).Denot) (x y : AtExit (ended_of 1 end-kinds.ps end-kinds.r) κs)
    → end_reads.Learnt κs given r x → end_reads.Learnt κs given t y → r ≡ t
one_end κs given r t x y p q = p.0 ∙ sym q.0

-- `stream::keep`: one answer, and one content of the buffer
pub one-keep : (κs : Lfts 1) (given : Dens κs keep-kinds.ps) (r t : (res_t keep-kinds.r κs).Denot) (x y : AtExit (ended_of 1 keep-kinds.ps keep-kinds.r) κs)
    → keep-reads.Learnt κs given r x → keep-reads.Learnt κs given t y → (r ≡ t) × (x.0.now ≡ y.0.now)
one-keep κs given r t x y p q = let e = p.0 ∙ sym q.0 in (e, p.1 ∙ rw e (sym q.1))

-- The functions over the lines of an input, at any way to answer them: T is what answers, S its state.
module _ (T S : RattleType) (L : Laws T) (M : Laws S) (C : IsCopy S) (g : Ghosts T.Denot S.Denot) (d : Dict) (h : Copied S.Denot) (e : Dict) where
  -- `answering::answer_block`: one answer, and one content of the buffer and of the output's memory
  pub one_block : (κs : Lfts 5) (given : Dens κs (block-kinds.ps T S L M C)) (r t : (res_t (block-kinds.r T S L M C) κs).Denot) (x y : AtExit (ended_of 5 (block-kinds.ps T S L M C) (block-kinds.r T S L M C)) κs)
      → block_reads.Learnt T S L M C g d h e κs given r x → block_reads.Learnt T S L M C g d h e κs given t y → (r ≡ t) × (x.1.0.now ≡ y.1.0.now) × (x.1.1.1.0.now ≡ y.1.1.1.0.now)
  one_block κs given r t x y p q =
      let k = p.kept ∙ sym q.kept in
      (rw (k, p.wrote.place ∙ sym q.wrote.place, p.state ∙ sym q.state), p.memory ∙ rw k (sym q.memory), p.wrote.bytes ∙ sym q.wrote.bytes)

  -- `answering::answer_last`: one answer, and one content of the output's memory
  pub one-rest : (κs : Lfts 5) (given : Dens κs (rest-kinds.ps T S L M C)) (r t : (res_t (rest-kinds.r T S L M C) κs).Denot) (x y : AtExit (ended_of 5 (rest-kinds.ps T S L M C) (rest-kinds.r T S L M C)) κs)
      → rest-reads.Learnt T S L M C g d h e κs given r x → rest-reads.Learnt T S L M C g d h e κs given t y → (r ≡ t) × (x.1.1.1.1.0.now ≡ y.1.1.1.1.0.now)
  one-rest κs given r t x y p q = (rw (p.0.0 ∙ sym q.0.0, p.1.1.place ∙ sym q.1.1.place, p.1.0 ∙ sym q.1.0), p.1.1.bytes ∙ sym q.1.1.bytes)

-- `point_line::line_of`
pub one_asked : (κs : Lfts 1) (given : Dens κs asked-kinds.ps) (r t : (res_t asked-kinds.r κs).Denot) (x y : AtExit (ended_of 1 asked-kinds.ps asked-kinds.r) κs)
    → asked-reads.Learnt κs given r x → asked-reads.Learnt κs given t y → r ≡ t
one_asked κs given r t x y p q = p ∙ sym q

-- `decimal::byte_at`
pub one_byte : (κs : Lfts 1) (given : Dens κs byte-kinds.ps) (r t : (res_t byte-kinds.r κs).Denot) (x y : AtExit (ended_of 1 byte-kinds.ps byte-kinds.r) κs)
    → byte-Reads.Learnt κs given r x → byte-Reads.Learnt κs given t y → r ≡ t
one_byte κs given r t x y p q = p ∙ sym q

-- `decimal::number_at`
pub one_number : (κs : Lfts 1) (given : Dens κs number-kinds.ps) (r t : (res_t number-kinds.r κs).Denot) (x y : AtExit (ended_of 1 number-kinds.ps number-kinds.r) κs)
    → number-reads.Learnt κs given r x → number-reads.Learnt κs given t y → r ≡ t
one_number κs given r t x y p q = p.0 ∙ sym q.0

-- `fields::field_at`
pub one_field : (κs : Lfts 1) (given : Dens κs field-kinds.ps) (r t : (res_t field-kinds.r κs).Denot) (x y : AtExit (ended_of 1 field-kinds.ps field-kinds.r) κs)
    → field-reads.Learnt κs given r x → field-reads.Learnt κs given t y → r ≡ t
one_field κs given r t x y p q = p.0 ∙ sym q.0

-- `fields::last_at`
pub one_last : (κs : Lfts 1) (given : Dens κs last-kinds.ps) (r t : (res_t last-kinds.r κs).Denot) (x y : AtExit (ended_of 1 last-kinds.ps last-kinds.r) κs)
    → last-reads.Learnt κs given r x → last-reads.Learnt κs given t y → r ≡ t
one_last κs given r t x y p q = p ∙ sym q

-- `row_line::row_asked`
pub one-row : (κs : Lfts 1) (given : Dens κs row-kinds.ps) (r t : (res_t row-kinds.r κs).Denot) (x y : AtExit (ended_of 1 row-kinds.ps row-kinds.r) κs)
    → row_reads.Learnt κs given r x → row_reads.Learnt κs given t y → r ≡ t
one-row κs given r t x y p q = p ∙ sym q

-- `row_line::correct_by`: one number, and one content of the lent sheet
pub one-row_line : (κs : Lfts 2) (given : Dens κs row-line-kinds.ps) (r t : (res_t row-line-kinds.r κs).Denot) (x y : AtExit (ended_of 2 row-line-kinds.ps row-line-kinds.r) κs)
    → row-line-reads.Learnt κs given r x → row-line-reads.Learnt κs given t y → (r ≡ t) × (x.0.now ≡ y.0.now)
one-row_line κs given r t x y p q = (same-number r t (p.0 ∙ sym q.0), p.1 ∙ sym q.1)

-- `reader::entry_at`
pub one_entry_at : (κs : Lfts 1) (given : Dens κs at-kinds.ps) (r t : (res_t at-kinds.r κs).Denot) (x y : AtExit (ended_of 1 at-kinds.ps at-kinds.r) κs)
    → at_reads.Learnt κs given r x → at_reads.Learnt κs given t y → r ≡ t
one_entry_at κs given r t x y p q = p ∙ sym q

-- `reader::read_entry`
pub one_entry : (κs : Lfts 1) (given : Dens κs entry-kinds.ps) (r t : (res_t entry-kinds.r κs).Denot) (x y : AtExit (ended_of 1 entry-kinds.ps entry-kinds.r) κs)
    → entry-reads.Learnt κs given r x → entry-reads.Learnt κs given t y → r ≡ t
one_entry κs given r t x y p q = p ∙ sym q

-- The functions over the reader's small value are proved by hand, and have no `Learnt`: there what the contract ensures of r and of t entails that the two are the same.
same_reader : (r t : Reader) → r.sheet ≡ t.sheet → r.place ≡ t.place → r ≡ t
same_reader r t e f = ap (λ s. record { sheet = s; place = r.place }) e ∙ ap (λ p. record { sheet = t.sheet; place = p }) f

module _ {M : Type 1} {𝓤 : Ura M} (𝓛 : Logic 𝓤) (mem : Memory → SProp 𝓤) (run : Routine → Fun 𝓤) (κs : Lfts 1) where
  both : {φ ψ χ : Type 0} → (φ → ψ → χ) → ent 𝓤 (conj 𝓤 (fact 𝓤 φ) (fact 𝓤 ψ)) (fact 𝓤 χ)
  both {φ} {ψ} {χ} f = guard-conj 𝓤 φ (emp 𝓤) (fact 𝓤 ψ) (λ p. via 𝓤 (fact 𝓤 ψ) (conj_r 𝓤 (emp 𝓤) (fact 𝓤 ψ)) (fact_mono 𝓤 ψ χ (f p)))

  -- `reader::new`
  pub one_reader : (given : Args new.signature κs) (r t : Res new.signature κs) (x y : AtExit new.ended κs)
      → ent 𝓤 (conj 𝓤 ((new.clauses 𝓛 mem run κs given).ensures tt r x) ((new.clauses 𝓛 mem run κs given).ensures tt t y)) (fact 𝓤 (r ≡ t))
  one_reader given r t x y = both (λ p q. same_reader r t (p.0 ∙ sym q.0) (p.1 ∙ sym q.1))

  -- `reader::moved`
  pub one_moved : (given : Args moved.signature κs) (r t : Res moved.signature κs) (x y : AtExit moved.ended κs)
      → ent 𝓤 (conj 𝓤 ((moved.clauses 𝓛 mem run κs given).ensures tt r x) ((moved.clauses 𝓛 mem run κs given).ensures tt t y)) (fact 𝓤 (r ≡ t))
  one_moved given r t x y = both (λ p q. same_reader r t (p.0 ∙ sym q.0) (p.1 ∙ sym q.1))

  -- `reader::next`
  pub one-next : (given : Args next.signature κs) (r t : Res next.signature κs) (x y : AtExit next.ended κs)
      → ent 𝓤 (conj 𝓤 ((next.clauses 𝓛 mem run κs given).ensures tt r x) ((next.clauses 𝓛 mem run κs given).ensures tt t y)) (fact 𝓤 (r ≡ t))
  one-next given r t x y = both (λ p q. p ∙ sym q)
