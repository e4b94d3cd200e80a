-- Laws of the two tests that a branch joins: where the first has told, the second is the whole.
use Rattle.model.proofs.Prelude.{Bool, false, not, true, ◌&&◌, ◌||◌, ◌≡◌}

module _ (n p t : Bool) (e : n ≡ p) where
  pub both_right : not n ≡ true → t ≡ (not p && t)
  both_right h = rw (← e, h)

  pub both_left : not n ≡ false → not n ≡ (not p && t)
  both_left h = rw (← e, h)

  pub either_left : n ≡ true → n ≡ (p || t)
  either_left h = rw (← e, h)

  pub either_right : n ≡ false → t ≡ (p || t)
  either_right h = rw (← e, h)
