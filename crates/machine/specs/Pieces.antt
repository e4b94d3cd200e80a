-- A piece of a run of octabytes: what one window holds of it.
use Rattle.std.specs.Prelude.{◌≡◌, ℕ, ◌+◌, ◌*◌, ◌^◌, ◌<◌, ◌≤◌}
use Rattle.model.specs.Memory.{Shapes, holder}
use Rattle.machine.specs.Octas.{room_in}

-- k octabytes from x up have the holder h, 0 for A, 1 for B, 2 for neither; a window that holds them has room for them
pub record PieceIs (w : Shapes) (x h k : ℕ) : Type 0 where
  pub in_b : h ≡ 1 → k ≤ room_in w.b x
  pub in_a : h ≡ 0 → k ≤ room_in w.a x
  pub held : (i : ℕ) → i < k → holder w (x + 8 * i) ≡ h
  pub some : 0 < k
  pub short : 8 * k < 2 ^ 64
