-- An octabyte that the layer above reads or writes by `pass`: where it is lent, it is the model's.
use Rattle.model.proofs.Prelude.{ℕ, Bool, cond, false, true, ◌||◌, ◌≢◌, refl, ◌≡◌, arith, both, has, holder, inside, put_octa, Shapes, shapes_of, Windows, look}
use Rattle.model.proofs.Prelude.{worst, refusing, inside_judged, worst_head}
use Rattle.machine.specs.Octas.{read_octa, written_octa}
use Rattle.machine.proofs.BothOctas.{read_in, written_in}

module _ (w : Windows) (a : ℕ) (e : worst (refusing (shapes_of w)) a 1 ≡ 0) where
  pub octa_read : read_octa w a ≡ look both w a
  octa_read = read_in w a (worst_head (refusing (shapes_of w)) a 0 e)

  pub octa_written : (v : ℕ) → written_octa w a v ≡ put_octa w a v
  octa_written = written_in w a (worst_head (refusing (shapes_of w)) a 0 e)

-- by the window that holds it, 2 where neither does
module _ (w : Shapes) (a : ℕ) where
  pub held_none : holder w a ≡ 2 → inside w a ≡ false
  unfolding holder inside
  held_none = go (has w.b a) (has w.a a)
    where
      go : (p q : Bool) → ◌≡◌ {A = ℕ} (cond p 1 (cond q 0 2)) 2 → (p || q) ≡ false
      go true q e = absurd (omega arith)
      go false true e = absurd (omega arith)
      go false false e = refl

  pub held_inside : holder w a ≢ 2 → inside w a ≡ true
  unfolding holder inside
  held_inside = go (has w.b a) (has w.a a)
    where
      go : (p q : Bool) → ◌≢◌ {A = ℕ} (cond p 1 (cond q 0 2)) 2 → (p || q) ≡ true
      go true q e = refl
      go false true e = refl
      go false false e = absurd (e refl)

pub octa_held : (w : Windows) (a : ℕ) → holder (shapes_of w) a ≢ 2 → read_octa w a ≡ look both w a
octa_held w a e = read_in w a (inside_judged (shapes_of w) a (held_inside (shapes_of w) a e))
