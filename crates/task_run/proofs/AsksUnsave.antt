-- What UNSAVE asks, over plain variables: the packed octabyte, then the local count, then the rest.
use Rattle.model.proofs.Prelude.{ℕ, ◌%◌, ◌+◌, ◌-◌, ◌/◌, ◌<◌, ◌^◌, ◌≤◌, Bool, cond, false, true, ◌&&◌, [], ap, refl, sym, ◌∙◌, ◌≡◌, arith, leb, le-leb, lt-leb}
use Rattle.model.proofs.Prelude.{both, holder, shapes_of, Windows, look, ups, run, unsave_needs, unsave_needs_count, unsave_needs_rest, holder_octa, octa_mod}
use Rattle.task_run.proofs.Prelude.{read_octa, octa_held, any_foreign, any_mod, foreign_mod}
use Rattle.model.specs.Contexts.{below}
use Rattle.machine.proofs.BothOctas.{read_mod}
use Rattle.task_run.specs.Ask.{own_of, whole_of, is_foreign, asks, OwnOnly}
use Rattle.task_run.specs.declared.ask.Whole.{Whole}
use Rattle.task_run.proofs.Asks.{asks_last, one_foreign, one_missing, one_there}

module _ (h : Whole) (w : Windows) (o : OwnOnly h w) (p : ℕ) (r : Bool) (e : r ≡ is_foreign h p) where
  pub unsave_foreign : r ≡ true → true ≡ asks h (unsave_needs w p)
  unfolding unsave_needs
  unsave_foreign f = one_foreign h w o p _ r e f

  module _ (f : r ≡ false) (k : ℕ) (n : k ≡ holder (shapes_of w) p) where
    pub unsave_missing : k ≡ 2 → false ≡ asks h (unsave_needs w p)
    unfolding unsave_needs
    unsave_missing q = one_missing h w o p _ r e f k n q

    -- v is the packed octabyte
    module _ (q : k ≡ 2 → ⊥) (v : ℕ) (d : v ≡ read_octa w p) where
      packed : look both w p ≡ v
      packed = sym (d ∙ octa_held w p (λ z. q (n ∙ z)))

      opened : asks h (unsave_needs w p) ≡ asks h (unsave_needs_count w p (v / 2 ^ 56) (v % 2 ^ 56))
      unfolding unsave_needs
      opened = one_there h w o p _ r e f k n q ∙ rw packed

      pub unsave_threshold : v / 2 ^ 56 < 32 → false ≡ asks h (unsave_needs w p)
      unfolding unsave_needs_count any_foreign
      unsave_threshold l = sym (opened ∙ rw (lt-leb 32 (v / 2 ^ 56) l))

      pub unsave_status : 0x3FFFF < v % 2 ^ 56 → false ≡ asks h (unsave_needs w p)
      unfolding unsave_needs_count any_foreign
      unsave_status l = sym (opened ∙ rw (lt-leb (v % 2 ^ 56) 0x3FFFF l) (go (leb 32 (v / 2 ^ 56) && leb (v / 2 ^ 56) 255)))
        where
          go : (b : Bool) → asks h (cond b [] []) ≡ false
          go true = refl
          go false = refl

      pub unsave_open : (s : Bool) → s ≡ asks h (unsave_needs_count w p (v / 2 ^ 56) (v % 2 ^ 56)) → s ≡ asks h (unsave_needs w p)
      unsave_open s b = b ∙ sym opened

-- the local count of a context whose packed octabyte is at p, of the threshold g; m is its address
module _ (h : Whole) (w : Windows) (o : OwnOnly h w) (p g : ℕ) (lo : 32 ≤ g) (hi : g ≤ 255) where
  abbrev at : ℕ
  at = below p (269 - g)

  opens : (ra : ℕ) → ra ≤ 0x3FFFF → unsave_needs_count w p g ra ≡ run w at 1 (unsave_needs_rest w p g (look both w at))
  unfolding unsave_needs_count
  opens ra am = rw (le-leb 32 g lo, le-leb g 255 hi, le-leb ra 0x3FFFF am)

  module _ (m : ℕ) (e : m ≡ at % 2 ^ 64) (r : Bool) (f : r ≡ is_foreign h m) where
    same : m % 2 ^ 64 ≡ at % 2 ^ 64
    same = omega arith

    asked : r ≡ is_foreign h at
    asked = f ∙ foreign_mod (own_of h) (whole_of h) m at same

    pub count_foreign : r ≡ true → (ra : ℕ) → ra ≤ 0x3FFFF → true ≡ asks h (unsave_needs_count w p g ra)
    count_foreign t ra am = one_foreign h w o at (unsave_needs_rest w p g (look both w at)) r asked t ∙ ap (asks h) (sym (opens ra am))

    module _ (t : r ≡ false) (k : ℕ) (n : k ≡ holder (shapes_of w) m) where
      held : k ≡ holder (shapes_of w) at
      held = n ∙ holder_octa (shapes_of w) m at (octa_mod m at same)

      pub count_missing : k ≡ 2 → (ra : ℕ) → ra ≤ 0x3FFFF → false ≡ asks h (unsave_needs_count w p g ra)
      count_missing q ra am = one_missing h w o at (unsave_needs_rest w p g (look both w at)) r asked t k held q ∙ ap (asks h) (sym (opens ra am))

      -- v is the count
      module _ (q : k ≡ 2 → ⊥) (v : ℕ) (d : v ≡ read_octa w m) where
        counted : look both w at ≡ v
        counted = sym (d ∙ read_mod w m at same ∙ octa_held w at (λ z. q (held ∙ z)))

        there : (ra : ℕ) → ra ≤ 0x3FFFF → asks h (unsave_needs_count w p g ra) ≡ asks h (unsave_needs_rest w p g v)
        there ra am = ap (asks h) (opens ra am) ∙ one_there h w o at (unsave_needs_rest w p g (look both w at)) r asked t k held q ∙ rw counted

        pub count_excess : g < v → (ra : ℕ) → ra ≤ 0x3FFFF → false ≡ asks h (unsave_needs_count w p g ra)
        unfolding unsave_needs_rest any_foreign
        count_excess l ra am = sym (there ra am ∙ rw (lt-leb v g l))

        pub count_rest : v ≤ g → (b : ℕ) → b ≡ below p (v + 269 - g) % 2 ^ 64 → (s : Bool) → s ≡ asks h (ups b (v + 270 - g))
            → (ra : ℕ) → ra ≤ 0x3FFFF → s ≡ asks h (unsave_needs_count w p g ra)
        unfolding unsave_needs_rest
        count_rest l b a s c ra am =
            c ∙ any_mod (own_of h) (whole_of h) (v + 270 - g) b (below p (v + 269 - g)) (omega arith)
            ∙ sym (there ra am ∙ rw (le-leb v g l) (asks_last h w o (below p (v + 269 - g)) (v + 270 - g)))
