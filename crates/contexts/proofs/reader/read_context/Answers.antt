-- `read_context` meets its contract: the part that `place_context` found.
use Rattle.model.proofs.Prelude.{ℕ, ◌+◌, ap, ◌∙◌, ◌≡◌, arith, eq-eqb, ne_eqb, lent}
use Rattle.contexts.proofs.ReaderAnswers.{ends_short, bytes_b, bytes_a}
use Rattle.contexts.proofs.reader.read_context.Goals as goal

lies : (b o start a : ℕ) → start ≡ a → ◌≡◌ {A = ℕ × ℕ} (b, start + o) (b, o + a)
lies b o start a e = let h : start + o ≡ o + a = omega arith in ap (λ (k : ℕ). (b, k)) h

pub overflow_add-end : goal.overflow_add-end
overflow_add-end c =
    let a = c.args in
    let found = c.place_context-found in
    omega (arith, ends_short a.at a.a.now a.b.now found.result.which (found.result.start + found.result.size) c.well_formed.0.0 c.well_formed.1.0.0 found.ensures.lies_inside)

pub slice_bounds-result-end : goal.slice_bounds-result-end
slice_bounds-result-end c = rw (eq-eqb _ _ c.if-found-eq-IN_B.true) at c.place_context-found.ensures.lies_inside

pub returns-then-found-eq-IN_B : goal.returns-then-found-eq-IN_B
returns-then-found-eq-IN_B c =
    let a = c.args in
    let found = c.place_context-found.ensures in
    record {
      reply_is = c.from.ensures ∙ found.number_is;
      which_is = found.which_is;
      bytes_are = bytes_b (lent a.at a.a.now a.b.now) _ _ _ _ found.which_is found.start_is found.size_is c.if-found-eq-IN_B.true;
      lies_at = rw (eq-eqb _ _ c.if-found-eq-IN_B.true) (lies _ _ _ _ found.start_is);
    }

pub slice_bounds-result-end-2 : goal.slice_bounds-result-end-2
slice_bounds-result-end-2 c = rw (ne_eqb _ _ c.if-found-eq-IN_B.false) at c.place_context-found.ensures.lies_inside

pub returns : goal.returns
returns c =
    let a = c.args in
    let found = c.place_context-found.ensures in
    record {
      reply_is = c.from.ensures ∙ found.number_is;
      which_is = found.which_is;
      bytes_are = bytes_a (lent a.at a.a.now a.b.now) _ _ _ _ found.which_is found.start_is found.size_is c.if-found-eq-IN_B.false;
      lies_at = rw (ne_eqb _ _ c.if-found-eq-IN_B.false) (lies _ _ _ _ found.start_is);
    }
