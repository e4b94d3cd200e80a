-- `leave` meets its contract: clearing from the new rL up makes the POP of the state between.
use Rattle.model.proofs.Prelude.{ℕ, List, ap, refl, ◌∙◌, ◌≡◌, arith, made}
use Rattle.model.specs.declared.State.{State}
use Rattle.model.specs.Lent.{windows_read}
use Rattle.stack.proofs.PushPopRegisters.{frame_read_law, low_is, left}
use Rattle.stack.proofs.frame.leave.Goals as goal

-- the special registers, once the others are there
specials : (g l m : List ℕ) (pc halt marks mask : ℕ) (t : State) → l ≡ m → made g m pc halt marks mask ≡ t → made g l pc halt marks mask ≡ t
specials g l m pc halt marks mask t e f = ap (λ (q : List ℕ). made g q pc halt marks mask) e ∙ f

pub restore-requires : goal.restore-requires
restore-requires c =
    let a = c.args in
    let least = c.min-low in (
      c.requires.1,
      omega (arith, least.ensures, c.requires.0.g_high),
      frame_read_law (windows_read a.windows) a.special.now a.x a.h _ _ _ c.requires.0 c.requires.2 c.requires.1
          c.wrapping_sub-bottom.ensures c.count_of-count.ensures.0 least.ensures c.requires.3,
    )

pub returns : goal.returns
returns c =
    λ pc halt marks mask.
    let a = c.args in
    let bottom = c.wrapping_sub-bottom in
    let count = c.count_of-count in
    specials _ _ _ pc halt marks mask _ c.set_frame.ensures
    (left (windows_read a.windows) a.special.now a.x a.h _ _ _ c.requires.0 c.requires.2 c.requires.1
    bottom.ensures count.ensures.0 c.min-low.ensures a.general.now _ _ pc halt marks mask
    (c.restore.ensures a.special.now pc halt marks mask refl
    (low_is (windows_read a.windows) a.special.now a.x a.h _ _ _ c.requires.0 c.requires.2 c.requires.1
    bottom.ensures count.ensures.0 c.min-low.ensures a.general.now pc halt marks mask))
    c.clear_range.ensures)
