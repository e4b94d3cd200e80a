-- `insert_zeros` meets its contract: bytes moved up, and digits 0 in their place.
use Rattle.model.proofs.Prelude.{ℕ, ◌≡◌, ◌∙◌, ◌+◌, ◌-◌, ap, refl, arith, take, drop, replicate, length, length-take-le, length-drop, length-replicate, written, written_lent}
use Rattle.point_lines.specs.Line.{zeros}
use Rattle.point_lines.proofs.Moved.{moved, put_none, put_in, put_behind}
use Rattle.point_lines.proofs.anew.insert_zeros.Goals as goal

pub returns-then-n-eq0 : goal.returns-then-n-eq0
returns-then-n-eq0 c =
    (put_none c.args.at c.args.n (take c.args.len c.args.held.now) c.if-n-eq0.true, omega (arith, c.if-n-eq0.true), refl)

pub returns : goal.returns
returns c =
    let a = c.args in
    let m = c.copy_within.new.self in
    let up : m ≡ written a.held.now (a.at + a.n) (drop a.at (take a.len a.held.now)) =
    moved a.held.now m a.len a.at a.n c.requires.0 c.requires.1 c.copy_within.ensures.len c.copy_within.ensures.by_index in
    let k : ℕ = a.at + a.n - a.at in
    let h : length m ≡ length a.held.now = c.copy_within.ensures.len in
    let z : c.fill.new.self ≡ zeros a.n =
    c.fill.ensures.after (λ y e. e) ∙ ap (λ (j : ℕ). replicate j 48) (length-take-le k (drop a.at m) (omega (arith, length-drop a.at m, c.requires)) ∙ omega arith) in
    let w = written_lent m c.fill.new.self a.at k (ap length z ∙ length-replicate {A = ℕ} a.n 48 ∙ omega arith) (omega (arith, c.requires)) ∙ ap (written m a.at) z in (
      put_in a.held.now _ _ a.len a.at a.n c.requires.0 c.requires.1 up w,
      refl,
      put_behind a.held.now _ _ a.len a.at a.n c.requires.0 (omega (arith, c.requires.1)) up w,
    )
