-- Laws of octabytes in a list of bytes: one, as the library has it; a run, as a loop reads it, as a loop writes it, and where it fits. Those of a window are in Octas.
use Rattle.model.proofs.Prelude.{suc, zero, ℕ, ◌*◌, ◌+◌, ◌<◌, ◌≤◌, append_assoc, append-nil, List, [], ◌++◌, ◌∷◌, ap, refl, subst, sym, ◌∙◌, ◌≡◌, add-one}
use Rattle.model.proofs.Prelude.{arith, get_or, length, length-append, length-set, set, take, length-take-le, take-suc, take-suc-set, le-leb, bytes_of}
use Rattle.std.specs.Int.{from_be_bytes, to_be_bytes, w64}
use Rattle.std.proofs.Common.{rules}
use Rattle.model.proofs.Prelude.{part, value_of, written, eight, written_append, written_nil}
use Rattle.machine.specs.Octabytes.{flat, octas, loaded_octas, stored_octas}

-- ---- one octabyte

-- a number from its bytes, as the library has it
bytes_eight : (a b c d e f g h : ℕ) → from_be_bytes w64 (a ∷ b ∷ c ∷ d ∷ e ∷ f ∷ g ∷ h ∷ []) ≡ value_of 0 (a ∷ b ∷ c ∷ d ∷ e ∷ f ∷ g ∷ h ∷ [])
unfolding value_of
bytes_eight a b c d e f g h = omega arith

pub octa_loaded : (l : List ℕ) (o : ℕ) → from_be_bytes w64 (get_or l o 0 ∷ get_or l (o + 1) 0 ∷ get_or l (o + 2) 0 ∷ get_or l (o + 3) 0
    ∷ get_or l (o + 4) 0 ∷ get_or l (o + 5) 0 ∷ get_or l (o + 6) 0 ∷ get_or l (o + 7) 0 ∷ []) ≡ value_of 0 (part l o 8)
unfolding part
octa_loaded l o = bytes_eight _ _ _ _ _ _ _ _ ∙ ap (value_of 0) (search rules)

pub bytes_are : (v : ℕ) → to_be_bytes w64 v ≡ bytes_of v
unfolding bytes_of
bytes_are v = refl

-- ---- read

pub length_octas : (l : List ℕ) (o n : ℕ) → length (octas l o n) ≡ n
unfolding octas
length_octas l o zero = refl
length_octas l o (suc n) = ap suc (length_octas l (o + 8) n)

pub octas_append : (l : List ℕ) (o m n : ℕ) → octas l o (m + n) ≡ octas l o m ++ octas l (o + 8 * m) n
unfolding octas
octas_append l o zero n =
    let a : 0 + n ≡ n = omega arith in
    let b : o + 8 * 0 ≡ o = omega arith in
    rw (a, b)
octas_append l o (suc m) n =
    let a : suc m + n ≡ suc (m + n) = omega arith in
    let b : o + 8 * suc m ≡ o + 8 + 8 * m = omega arith in
    rw (a, b) (ap (λ (vs : List ℕ). value_of 0 (part l o 8) ∷ vs) (octas_append l (o + 8) m n))

pub octas_none : (l : List ℕ) (o : ℕ) → [] ≡ octas l o 0
unfolding octas
octas_none l o = refl

one : (l : List ℕ) (o : ℕ) → octas l o 1 ≡ value_of 0 (part l o 8) ∷ []
unfolding octas
one l o = refl

-- one octabyte more
pub octas_turn : (l vs : List ℕ) (o i v : ℕ) → i < length vs → take i vs ≡ octas l o i → v ≡ value_of 0 (part l (o + 8 * i) 8)
    → take (i + 1) (set vs i v) ≡ octas l o (i + 1)
octas_turn l vs o i v h e f = rw (octas_append l o i 1, one, ← e, ← f, add-one, take-suc-set vs i v h)

-- octabyte i of them
pub get_or-octas : (n : ℕ) (l : List ℕ) (o i : ℕ) → i < n → get_or (octas l o n) i 0 ≡ value_of 0 (part l (o + 8 * i) 8)
unfolding octas
get_or-octas zero l o i h = absurd (omega arith)
get_or-octas (suc n) l o zero h = ap (λ (k : ℕ). value_of 0 (part l k 8)) (omega arith)
get_or-octas (suc n) l o (suc i) h = get_or-octas n l (o + 8) i (omega arith) ∙ ap (λ (k : ℕ). value_of 0 (part l k 8)) (omega arith)

-- four turns
pub octas_four : (l vs : List ℕ) (o i a b c d : ℕ) → i + 4 ≤ length vs → take i vs ≡ octas l o i
    → a ≡ value_of 0 (part l (o + 8 * i) 8) → b ≡ value_of 0 (part l (o + 8 * (i + 1)) 8)
    → c ≡ value_of 0 (part l (o + 8 * (i + 2)) 8) → d ≡ value_of 0 (part l (o + 8 * (i + 3)) 8)
    → take (i + 4) (set (set (set (set vs i a) (i + 1) b) (i + 2) c) (i + 3) d) ≡ octas l o (i + 4)
octas_four l vs o i a b c d h e fa fb fc fd =
    let v₁ : List ℕ = set vs i a in
    let v₂ : List ℕ = set v₁ (i + 1) b in
    let v₃ : List ℕ = set v₂ (i + 2) c in
    let v₄ : List ℕ = set v₃ (i + 3) d in
    let n₁ : length v₁ ≡ length vs = length-set vs i a in
    let n₂ : length v₂ ≡ length vs = length-set v₁ (i + 1) b ∙ n₁ in
    let n₃ : length v₃ ≡ length vs = length-set v₂ (i + 2) c ∙ n₂ in
    let q₂ : i + 1 + 1 ≡ i + 2 = omega arith in
    let q₃ : i + 2 + 1 ≡ i + 3 = omega arith in
    let q₄ : i + 3 + 1 ≡ i + 4 = omega arith in
    let e₁ : take (i + 1) v₁ ≡ octas l o (i + 1) = octas_turn l vs o i a (omega arith) e fa in
    let e₂ : take (i + 2) v₂ ≡ octas l o (i + 2) = subst (λ (n : ℕ). take n v₂ ≡ octas l o n) q₂ (octas_turn l v₁ o (i + 1) b (omega arith) e₁ fb) in
    let e₃ : take (i + 3) v₃ ≡ octas l o (i + 3) = subst (λ (n : ℕ). take n v₃ ≡ octas l o n) q₃ (octas_turn l v₂ o (i + 2) c (omega arith) e₂ fc) in
    subst (λ (n : ℕ). take n v₄ ≡ octas l o n) q₄ (octas_turn l v₃ o (i + 3) d (omega arith) e₃ fd)

-- ---- written

pub length_flat : (vs : List ℕ) → length (flat vs) ≡ 8 * length vs
unfolding flat
length_flat [] = refl
length_flat (v ∷ vs) = length-append (bytes_of v) (flat vs) ∙ omega (arith, eight v, length_flat vs)

pub flat_append : (us vs : List ℕ) → flat (us ++ vs) ≡ flat us ++ flat vs
unfolding flat
flat_append [] vs = refl
flat_append (u ∷ us) vs = ap (λ (r : List ℕ). bytes_of u ++ r) (flat_append us vs) ∙ sym (append_assoc (bytes_of u) (flat us) (flat vs))

flat_one : (v : ℕ) → flat (v ∷ []) ≡ bytes_of v
unfolding flat
flat_one v = append-nil (bytes_of v)

pub written_all : (l vs : List ℕ) → length vs ≡ length l → written l 0 vs ≡ vs
unfolding written
written_all [] [] e = refl
written_all [] (v ∷ vs) e = absurd (omega arith)
written_all (x ∷ xs) [] e = absurd (omega arith)
written_all (x ∷ xs) (v ∷ vs) e = ap (λ (r : List ℕ). v ∷ r) (written_all xs vs (omega arith))

pub flat_none : (l : List ℕ) (o : ℕ) → l ≡ written l o (flat [])
unfolding flat
flat_none l o = sym (written_nil l o)

-- one octabyte more
pub flat_turn : (l k vs : List ℕ) (o i : ℕ) → i < length vs → l ≡ written k o (flat (take i vs))
    → written l (o + 8 * i) (bytes_of (get_or vs i 0)) ≡ written k o (flat (take (i + 1) vs))
flat_turn l k vs o i h e =
    let n : length (flat (take i vs)) ≡ 8 * i = length_flat (take i vs) ∙ ap (λ (m : ℕ). 8 * m) (length-take-le i vs (omega arith)) in
    rw (e, add-one i, take-suc vs i 0 h, flat_append, flat_one) (written_append k o (flat (take i vs)) (bytes_of (get_or vs i 0)) (o + 8 * i) (omega arith))

-- four turns
pub flat_four : (l l₁ l₂ l₃ l₄ k vs : List ℕ) (o i : ℕ) → i + 4 ≤ length vs → l ≡ written k o (flat (take i vs))
    → l₁ ≡ written l (o + 8 * i) (bytes_of (get_or vs i 0)) → l₂ ≡ written l₁ (o + 8 * (i + 1)) (bytes_of (get_or vs (i + 1) 0))
    → l₃ ≡ written l₂ (o + 8 * (i + 2)) (bytes_of (get_or vs (i + 2) 0)) → l₄ ≡ written l₃ (o + 8 * (i + 3)) (bytes_of (get_or vs (i + 3) 0))
    → l₄ ≡ written k o (flat (take (i + 4) vs))
flat_four l l₁ l₂ l₃ l₄ k vs o i h e d₁ d₂ d₃ d₄ =
    let q₂ : i + 1 + 1 ≡ i + 2 = omega arith in
    let q₃ : i + 2 + 1 ≡ i + 3 = omega arith in
    let q₄ : i + 3 + 1 ≡ i + 4 = omega arith in
    let e₁ : l₁ ≡ written k o (flat (take (i + 1) vs)) = d₁ ∙ flat_turn l k vs o i (omega arith) e in
    let e₂ : l₂ ≡ written k o (flat (take (i + 2) vs)) = subst (λ (n : ℕ). l₂ ≡ written k o (flat (take n vs))) q₂ (d₂ ∙ flat_turn l₁ k vs o (i + 1) (omega arith) e₁) in
    let e₃ : l₃ ≡ written k o (flat (take (i + 3) vs)) = subst (λ (n : ℕ). l₃ ≡ written k o (flat (take n vs))) q₃ (d₃ ∙ flat_turn l₂ k vs o (i + 2) (omega arith) e₂) in
    subst (λ (n : ℕ). l₄ ≡ written k o (flat (take n vs))) q₄ (d₄ ∙ flat_turn l₃ k vs o (i + 3) (omega arith) e₃)

-- ---- where they fit

pub loaded_fits : (l : List ℕ) (o : ℕ) (vs : List ℕ) → o + 8 * length vs ≤ length l → loaded_octas l o vs ≡ octas l o (length vs)
unfolding loaded_octas
loaded_fits l o vs h = rw (le-leb (o + 8 * length vs) (length l) h)

pub stored_fits : (l : List ℕ) (o : ℕ) (vs : List ℕ) → o + 8 * length vs ≤ length l → stored_octas l o vs ≡ written l o (flat vs)
unfolding stored_octas
stored_fits l o vs h = rw (le-leb (o + 8 * length vs) (length l) h)
