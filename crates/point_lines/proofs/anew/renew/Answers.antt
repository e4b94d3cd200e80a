-- `renew` meets its contract: digits 0 put in at three places, from the last on, for which there is room.
use Rattle.model.proofs.Prelude.{◌+◌, ◌≤◌, ℕ, Bool, true, refl, sym, ◌∙◌, ◌≡◌, arith}
use Rattle.point_lines.specs.Line.{length_digits, state_digits, state_end, gained, widens}
use Rattle.point_lines.proofs.Moved.{three_behind}
use Rattle.point_lines.proofs.Padded.{widens_facts, renewed_none, renewed_by}
use Rattle.std.proofs.Common.{rules}
use Rattle.point_lines.proofs.anew.renew.Goals as goal

facts : (room shown w d : ℕ) (t : Bool) → t ≡ widens room shown w d → t ≡ true →
    (w ≤ length_digits) × (d ≤ state_digits) × (state_end w d ≤ shown) × (shown + gained w d ≤ room)
facts room shown w d t e f = widens_facts room shown w d (sym e ∙ f)

pub overflow_mul-w : goal.overflow_mul-w
overflow_mul-w c = omega (arith, facts _ _ _ _ _ c.widens.ensures c.if-not-widens.false)

pub overflow_add-w : goal.overflow_add-w
overflow_add-w c = omega (arith, facts _ _ _ _ _ c.widens.ensures c.if-not-widens.false)

pub overflow_add-w-2 : goal.overflow_add-w-2
overflow_add-w-2 c = omega (arith, facts _ _ _ _ _ c.widens.ensures c.if-not-widens.false)

pub overflow_sub-d : goal.overflow_sub-d
overflow_sub-d c = omega (arith, facts _ _ _ _ _ c.widens.ensures c.if-not-widens.false)

pub overflow_add-w-3 : goal.overflow_add-w-3
overflow_add-w-3 c = omega (arith, facts _ _ _ _ _ c.widens.ensures c.if-not-widens.false)

pub overflow_sub-w : goal.overflow_sub-w
overflow_sub-w c = omega (arith, facts _ _ _ _ _ c.widens.ensures c.if-not-widens.false)

pub overflow_sub-w-2 : goal.overflow_sub-w-2
overflow_sub-w-2 c = omega (arith, facts _ _ _ _ _ c.widens.ensures c.if-not-widens.false)

pub insert_zeros-third-requires : goal.insert_zeros-third-requires
insert_zeros-third-requires c = let f = facts _ _ _ _ _ c.widens.ensures c.if-not-widens.false in (f.2, omega (arith, f.3))

pub insert_zeros-second-requires : goal.insert_zeros-second-requires
insert_zeros-second-requires c =
    let f = facts _ _ _ _ _ c.widens.ensures c.if-not-widens.false in
    (omega (arith, f.2, c.insert_zeros-third.ensures.1), omega (arith, f.3, c.insert_zeros-third.ensures.1, c.insert_zeros-third.auto.held))

pub insert_zeros-requires : goal.insert_zeros-requires
insert_zeros-requires c =
    let f = facts _ _ _ _ _ c.widens.ensures c.if-not-widens.false in (
      omega (arith, f.2, c.insert_zeros-third.ensures.1, c.insert_zeros-second.ensures.1),
      omega (arith, f.3, c.insert_zeros-third.ensures.1, c.insert_zeros-third.auto.held, c.insert_zeros-second.ensures.1, c.insert_zeros-second.auto.held),
    )

pub returns-then-not-widens : goal.returns-then-not-widens
returns-then-not-widens c = (renewed_none _ _ _ _ (sym c.widens.ensures ∙ c.if-not-widens.true), search rules, refl)

pub returns : goal.returns
returns c =
    let a = c.args in
    let f = facts _ _ _ _ _ c.widens.ensures c.if-not-widens.false in (
      renewed_by a.held.now a.shown a.widths.lengths a.widths.state _ _ _ (sym c.widens.ensures ∙ c.if-not-widens.false)
          c.insert_zeros-third.ensures.0 c.insert_zeros-second.ensures.0 c.insert_zeros.ensures.0,
      omega (arith, f.3, c.insert_zeros-third.ensures.1, c.insert_zeros-second.ensures.1, c.insert_zeros.ensures.1),
      three_behind _ _ _ _ _ _ _ _ _ c.insert_zeros-second.ensures.1 c.insert_zeros.ensures.1
          c.insert_zeros-third.ensures.2 c.insert_zeros-second.ensures.2 c.insert_zeros.ensures.2,
    )
