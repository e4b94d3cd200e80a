-- `pieces_refusal` meets its contract: a piece that neither window holds is refused; where all are held it is done.
use Rattle.model.proofs.Prelude.{no_holder, number_of, some_holder, refl, sym, ◌≡◌, arith, worst}
use Rattle.machine.proofs.RunRefused.{lacks, enough, passes}
use Rattle.machine.proofs.memory.pieces_refusal.Goals as goal

pub loop-i-init : goal.loop-i-init
unfolding worst
loop-i-init c = (omega arith, refl, omega arith)

pub returns-then-is_none : goal.returns-then-is_none
unfolding number_of
returns-then-is_none c =
    sym (lacks _ _ c.loop-i.i _ _ _ _ (omega arith) c.loop-i.invariant.2 c.next_piece-next.ensures (no_holder _ _ c.is_none.ensures c.if-is_none.true))

pub returns-then-n-i : goal.returns-then-n-i
unfolding number_of
returns-then-n-i c =
    sym (enough _ _ c.loop-i.i _ _ _ _ c.loop-i.invariant.1 c.loop-i.invariant.2 c.next_piece-next.ensures (some_holder _ _ c.is_none.ensures c.if-is_none.false) (omega arith) (omega arith))

pub overflow_mul-next : goal.overflow_mul-next
overflow_mul-next c = omega (arith, c.next_piece-next.ensures.short)

pub loop-i-smaller : goal.loop-i-smaller
loop-i-smaller c = omega (arith, c.next_piece-next.ensures.some)

pub loop-i-preserved : goal.loop-i-preserved
loop-i-preserved c = (
  omega arith,
  passes _ _ c.loop-i.i _ _ _ _ c.loop-i.invariant.1 c.loop-i.invariant.2 c.next_piece-next.ensures (some_holder _ _ c.is_none.ensures c.if-is_none.false) (omega arith),
  omega (arith, c.wrapping_add-place.ensures, c.loop-i.invariant.2),
)

pub returns : goal.returns
unfolding number_of
returns c =
    let e : c.loop-i.i ≡ c.args.n = omega arith in
    rw e at (sym c.loop-i.invariant.1)
