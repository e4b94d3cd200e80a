-- Theorem. What 22 means: windows that obey their rules share an octabyte just where some octabyte lies in both.
use Rattle.std.specs.Prelude.{◌≡◌, ℕ, true, false}
use Rattle.model.specs.Memory.{Shapes, has, holder, ruled, shares}

-- an octabyte that lies in both
pub record Common (w : Shapes) : Type 0 where
  pub address : ℕ
  pub in_a : has w.a address ≡ true
  pub in_b : has w.b address ≡ true

pub record WindowsApart : Type 0 where
  -- where they share none, what A has B has not, and each octabyte is held by the window that has it
  pub apart : (w : Shapes) → ruled w ≡ true → shares w ≡ false → (x : ℕ) → has w.a x ≡ true → has w.b x ≡ false
  pub held_a : (w : Shapes) → ruled w ≡ true → shares w ≡ false → (x : ℕ) → has w.a x ≡ true → holder w x ≡ 0
  pub held_b : (w : Shapes) → ruled w ≡ true → shares w ≡ false → (x : ℕ) → has w.b x ≡ true → holder w x ≡ 1
  -- where they share, there is one
  pub common : (w : Shapes) → ruled w ≡ true → shares w ≡ true → Common w
