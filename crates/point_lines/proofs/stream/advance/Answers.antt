-- `advance` meets its contract: its tests are those by which a turn is defined.
use Rattle.model.proofs.Prelude.{ℕ, ◌+◌, ◌≤◌, List, sym, ◌≡◌, ⊎_elim, flag, arith, drop, length, length-take-le}
use Rattle.point_lines.proofs.Prelude.{line_length, length_line}
use Rattle.point_lines.proofs.Turns.{turn_more, turn_good, turn_bad, turn_full}
use Rattle.point_lines.proofs.stream.advance.Goals as goal

ending : (end : ℕ) (chunk : List ℕ) → end ≡ 0 + line_length (drop 0 chunk) → end ≡ line_length chunk
ending end chunk e = omega (arith, e)

within : (end : ℕ) (chunk : List ℕ) → end ≡ 0 + line_length (drop 0 chunk) → end ≤ length chunk
within end chunk e = omega (arith, ending end chunk e, length_line chunk)

pub slice_bounds-keep-end : goal.slice_bounds-keep-end
slice_bounds-keep-end c =
    let a = c.args in
    sym (length-take-le c.line_end-end.result a.chunk.now (within _ a.chunk.now c.line_end-end.ensures))

pub returns-then-held-next : goal.returns-then-held-next
returns-then-held-next c =
    let a = c.args in
    turn_full a.held.now a.count a.chunk.now _ _ _ (ending _ _ c.line_end-end.ensures) c.keep-next.ensures.0 c.keep-next.ensures.1 c.if-held-next.true

pub returns-then-end-chunk : goal.returns-then-end-chunk
returns-then-end-chunk c =
    let a = c.args in
    turn_more a.held.now a.count a.chunk.now _ _ _ (ending _ _ c.line_end-end.ensures) c.keep-next.ensures.0 c.keep-next.ensures.1
    c.if-held-next.false c.if-end-chunk.true

pub slice_bounds-widths_of-end-2 : goal.slice_bounds-widths_of-end-2
slice_bounds-widths_of-end-2 c = sym (length-take-le c.keep-next.result c.keep-next.new.held (omega arith))

pub returns-in_default : goal.returns-in_default
returns-in_default c =
    let a = c.args in
    turn_bad a.held.now a.count a.chunk.now _ _ _ (ending _ _ c.line_end-end.ensures) c.keep-next.ensures.0 c.keep-next.ensures.1
    c.if-held-next.false c.if-end-chunk.false (⊎_elim (λ e. absurd (c.in_default.ensures e)) (λ e. e) (flag _))

pub overflow_add-result : goal.overflow_add-result
overflow_add-result c = omega (arith, within _ _ c.line_end-end.ensures, c.if-end-chunk.false)

pub returns : goal.returns
returns c =
    let a = c.args in
    turn_good a.held.now a.count a.chunk.now _ _ _ (ending _ _ c.line_end-end.ensures) c.keep-next.ensures.0 c.keep-next.ensures.1
    c.if-held-next.false c.if-end-chunk.false _ c.in-Some.ensures.1 c.in-Some.ensures.0
