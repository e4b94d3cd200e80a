-- Laws of the search for a field, over plain variables: its four answers by the distance d.
use Rattle.model.proofs.Prelude.{ℕ, ◌%◌, ◌-◌, ◌/◌, ◌<◌, ◌^◌, ◌≤◌, sym, ◌≡◌, eq-eqb, le-leb, le-ltb, lt-leb, lt-ltb, ne_eqb, distance, field_at, field_of}
use Rattle.model.specs.declared.Reach.TheVariants.{Forward, Backward, Neither}

module _ (size from to d : ℕ) (e : d ≡ distance from to) where
  pub misaligned : (d % 4 ≡ 0 → ⊥) → Neither ≡ field_of size from to
  unfolding field_of field_at
  misaligned n = sym (rw (← e, ne_eqb (d % 4) 0 n))

  module _ (a : d % 4 ≡ 0) where
    pub ahead : d / 4 < size → Forward (d / 4) ≡ field_of size from to
    unfolding field_of field_at
    ahead l = sym (rw (← e, eq-eqb (d % 4) 0 a, lt-ltb (d / 4) size l))

    pub between : size ≤ d / 4 → d / 4 < 2 ^ 62 - size → Neither ≡ field_of size from to
    unfolding field_of field_at
    between l m = sym (rw (← e, eq-eqb (d % 4) 0 a, le-ltb (d / 4) size l, lt-leb (2 ^ 62 - size) (d / 4) m))

    pub behind : size ≤ d / 4 → 2 ^ 62 - size ≤ d / 4 → Backward (d / 4 - (2 ^ 62 - size)) ≡ field_of size from to
    unfolding field_of field_at
    behind l m = sym (rw (← e, eq-eqb (d % 4) 0 a, le-ltb (d / 4) size l, le-leb (2 ^ 62 - size) (d / 4) m))
