-- `number` meets its contract: a byte that is no digit ends it with none; else the number is that of one digit more.
use Rattle.std.proofs.Common.{below_more, take_all}
use Rattle.std.proofs.lemmas.List.Elements.{All-from_get_or}
use Rattle.model.proofs.Prelude.{ℕ, ◌<◌, ◌∙◌, ap, refl, arith}
use Rattle.text.specs.Digits.{digit_of, number_of, value_of}
use Rattle.text.proofs.Digits.{value_more, value_fits}
use Rattle.text.proofs.read.number.Goals as goal

pub loop-b-init : goal.loop-b-init
unfolding number_of
loop-b-init c = (refl, λ k h. absurd (omega arith))

pub overflow_mul-number : goal.overflow_mul-number
overflow_mul-number c =
    let l = c.loop-b in
    omega (arith, l.invariant.0, value_fits c.args.digits.now l.b-index c.loop-b-test.true c.if-digits-gt-DIGITS_MOST.false l.invariant.1 c.in_ok-low.ensures.0)

pub overflow_add-number : goal.overflow_add-number
overflow_add-number c =
    let l = c.loop-b in
    omega (arith, l.invariant.0, c.from.ensures, c.in_ok-low.ensures.1, value_fits c.args.digits.now l.b-index c.loop-b-test.true c.if-digits-gt-DIGITS_MOST.false l.invariant.1 c.in_ok-low.ensures.0)

pub loop-b-preserved : goal.loop-b-preserved
loop-b-preserved c =
    let l = c.loop-b in (
      omega (arith, l.invariant.0, c.from.ensures, c.in_ok-low.ensures.1, value_more c.args.digits.now l.b-index c.loop-b-test.true),
      below_more _ _ l.invariant.1 c.in_ok-low.ensures.0,
    )

pub returns : goal.returns
returns c =
    let l = c.loop-b in
    let s = c.args.digits.now in (
      (c.if-digits-gt-DIGITS_MOST.false, All-from_get_or (λ (b : ℕ). digit_of b < 16) s 0 (λ i h. l.invariant.1 i (omega arith))),
      l.invariant.0 ∙ ap value_of (take_all l.b-index s c.loop-b-test.false),
    )
