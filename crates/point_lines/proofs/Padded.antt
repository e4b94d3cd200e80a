-- Laws of a line with digits 0 put in: where its parts stand, and with more after it.
use Rattle.model.proofs.Prelude.{ℕ, ◌+◌, ◌-◌, ◌<◌, ◌≤◌, false, true, append_assoc, List, [], ◌++◌, ap, sym, ◌∙◌, ◌≡◌, arith, leb, drop, length, length-append}
use Rattle.model.proofs.Prelude.{length-drop, take, take-append-drop, drop-append-le, drop_at, length-take-le, take-append-le, take_at, le-leb, leb-true}
use Rattle.model.proofs.Prelude.{lt-leb, and_left, and_right}
use Rattle.point_lines.specs.Line.{length_digits, state_digits, first_at, second_at, state_end, zeros, padded, gained, widens, widened, renewed_in}

pub padded_none : (i : ℕ) (l : List ℕ) → padded i 0 l ≡ l
unfolding padded
padded_none i l = take-append-drop i l

padded_at : (f r : List ℕ) (i n : ℕ) → length f ≡ i → padded i n (f ++ r) ≡ f ++ (zeros n ++ r)
unfolding padded
padded_at f r i n e = rw (take_at f r i e, drop_at f r i e)

padded_more : (i n : ℕ) (p q : List ℕ) → i ≤ length p → padded i n (p ++ q) ≡ padded i n p ++ q
unfolding padded
padded_more i n p q h =
    rw (take-append-le i p q h, drop-append-le i p q h)
    (sym (append_assoc (take i p) (zeros n ++ drop i p) q ∙ ap (λ (k : List ℕ). take i p ++ k) (append_assoc (zeros n) (drop i p) q)))

length_padded : (i n : ℕ) (l : List ℕ) → i ≤ length l → length l ≤ length (padded i n l)
unfolding padded
length_padded i n l h = omega (
  arith,
  length-append (take i l) (zeros n ++ drop i l),
  length-append (zeros n) (drop i l),
  length-take-le i l h,
  length-drop i l,
)

-- a line of the form that is written
pub widened_none : (l : List ℕ) → widened length_digits state_digits l ≡ l
unfolding widened
widened_none l =
    padded_none first_at _
    ∙ padded_none (second_at length_digits) _
    ∙ padded_none (state_end length_digits state_digits) l

-- a line and what follows it
pub widened_more : (w d : ℕ) (p q : List ℕ) → state_end w d ≤ length p → widened w d (p ++ q) ≡ widened w d p ++ q
unfolding widened
widened_more w d p q h =
    let p₁ : List ℕ = padded (state_end w d) (state_digits - d) p in
    let p₂ : List ℕ = padded (second_at w) (length_digits - w) p₁ in
    let h₁ : length p ≤ length p₁ = length_padded (state_end w d) (state_digits - d) p h in
    let h₂ : length p₁ ≤ length p₂ = length_padded (second_at w) (length_digits - w) p₁ (omega arith) in
    ap (λ (l : List ℕ). padded first_at (length_digits - w) (padded (second_at w) (length_digits - w) l)) (padded_more (state_end w d) (state_digits - d) p q h)
    ∙ ap (padded first_at (length_digits - w)) (padded_more (second_at w) (length_digits - w) p₁ q (omega arith))
    ∙ padded_more first_at (length_digits - w) p₂ q (omega arith)

-- ---- where it has such widths, and room

module _ (room n w d : ℕ) where
  pub widens_here : w ≤ length_digits → d ≤ state_digits → state_end w d ≤ n → n + gained w d ≤ room → widens room n w d ≡ true
  unfolding widens
  widens_here g h i j = rw (le-leb w length_digits g, le-leb d state_digits h, le-leb (state_end w d) n i, le-leb (n + gained w d) room j)

  pub widens_facts : widens room n w d ≡ true → (w ≤ length_digits) × (d ≤ state_digits) × (state_end w d ≤ n) × (n + gained w d ≤ room)
  unfolding widens
  widens_facts e =
      let r = and_right (leb w length_digits) _ e in
      let q = and_right (leb d state_digits) _ r in (
        leb-true _ _ (and_left (leb w length_digits) _ e),
        leb-true _ _ (and_left (leb d state_digits) _ r),
        leb-true _ _ (and_left (leb (state_end w d) n) _ q),
        leb-true _ _ (and_right (leb (state_end w d) n) _ q),
      )

  pub many_lengths : length_digits < w → widens room n w d ≡ false
  unfolding widens
  many_lengths g = rw (lt-leb w length_digits g)

  module _ (g : w ≤ length_digits) where
    pub many_state : state_digits < d → widens room n w d ≡ false
    unfolding widens
    many_state h = rw (le-leb w length_digits g, lt-leb d state_digits h)

    module _ (h : d ≤ state_digits) where
      pub state_cut : n < state_end w d → widens room n w d ≡ false
      unfolding widens
      state_cut i = rw (le-leb w length_digits g, le-leb d state_digits h, lt-leb (state_end w d) n i)

      pub little_room : state_end w d ≤ n → room < n + gained w d → widens room n w d ≡ false
      unfolding widens
      little_room i j = rw (le-leb w length_digits g, le-leb d state_digits h, le-leb (state_end w d) n i, lt-leb (n + gained w d) room j)

-- what is left of the first n bytes held
module _ (held : List ℕ) (n w d : ℕ) where
  pub renewed_none : widens (length held) n w d ≡ false → [] ≡ renewed_in held n w d
  unfolding renewed_in
  renewed_none e = rw e

  pub renewed_here : widens (length held) n w d ≡ true → renewed_in held n w d ≡ widened w d (take n held)
  unfolding renewed_in
  renewed_here e = rw e

  -- put in from the last on
  pub renewed_by : (third second first : List ℕ) → widens (length held) n w d ≡ true → third ≡ padded (state_end w d) (state_digits - d) (take n held)
      → second ≡ padded (second_at w) (length_digits - w) third → first ≡ padded first_at (length_digits - w) second → first ≡ renewed_in held n w d
  unfolding widened
  renewed_by third second first e f g h =
      h ∙ ap (padded first_at (length_digits - w)) (g ∙ ap (padded (second_at w) (length_digits - w)) f) ∙ sym (renewed_here e)

-- ---- a line in its parts
module _ (w d : ℕ) (h a s b t i f : List ℕ) (nh : length h ≡ 23) (na : length a ≡ w) (ns : length s ≡ 1) (nb : length b ≡ w) (nt : length t ≡ 51) (ni : length i ≡ d) where
  abbrev j : ℕ
  j = length_digits - w

  abbrev k : ℕ
  k = state_digits - d

  abbrev z₃ : List ℕ
  z₃ = zeros k ++ f

  abbrev z₂ : List ℕ
  z₂ = zeros j ++ (b ++ (t ++ (i ++ z₃)))

  third : padded (state_end w d) k (h ++ (a ++ (s ++ (b ++ (t ++ (i ++ f)))))) ≡ h ++ (a ++ (s ++ (b ++ (t ++ (i ++ z₃)))))
  third =
      let u : List ℕ = h ++ (a ++ (s ++ (b ++ (t ++ i)))) in
      let e : h ++ (a ++ (s ++ (b ++ (t ++ (i ++ f))))) ≡ u ++ f = simp append_assoc in
      let g : u ++ z₃ ≡ h ++ (a ++ (s ++ (b ++ (t ++ (i ++ z₃))))) = simp append_assoc in
      ap (padded (state_end w d) k) e
      ∙ padded_at u f (state_end w d) k (omega (
        arith,
        length-append h (a ++ (s ++ (b ++ (t ++ i)))),
        length-append a (s ++ (b ++ (t ++ i))),
        length-append s (b ++ (t ++ i)),
        length-append b (t ++ i),
        length-append t i,
      ))
      ∙ g

  second : padded (second_at w) j (h ++ (a ++ (s ++ (b ++ (t ++ (i ++ z₃)))))) ≡ h ++ (a ++ (s ++ z₂))
  second =
      let u : List ℕ = h ++ (a ++ s) in
      let r : List ℕ = b ++ (t ++ (i ++ z₃)) in
      let e : h ++ (a ++ (s ++ r)) ≡ u ++ r = sym (append_assoc h (a ++ s) r ∙ ap (λ (q : List ℕ). h ++ q) (append_assoc a s r)) in
      let g : u ++ z₂ ≡ h ++ (a ++ (s ++ z₂)) = append_assoc h (a ++ s) z₂ ∙ ap (λ (q : List ℕ). h ++ q) (append_assoc a s z₂) in
      ap (padded (second_at w) j) e ∙ padded_at u r (second_at w) j (omega (arith, length-append h (a ++ s), length-append a s)) ∙ g

  pub widened_parts : widened w d (h ++ (a ++ (s ++ (b ++ (t ++ (i ++ f))))))
      ≡ h ++ ((zeros j ++ a) ++ (s ++ ((zeros j ++ b) ++ (t ++ ((i ++ zeros k) ++ f)))))
  unfolding widened
  widened_parts =
      ap (λ (l : List ℕ). padded first_at j (padded (second_at w) j l)) third
      ∙ ap (padded first_at j) second
      ∙ padded_at h (a ++ (s ++ z₂)) first_at j nh
      ∙ rw (append_assoc (zeros j) a (s ++ ((zeros j ++ b) ++ (t ++ ((i ++ zeros k) ++ f)))), append_assoc (zeros j) b (t ++ ((i ++ zeros k) ++ f)), append_assoc i (zeros k) f)
