-- Laws of the bytes of an octabyte, one at a time: as a loop reads them and as a loop writes them.
use Rattle.model.proofs.Logic.{suc, zero, ℕ, ◌%◌, ◌*◌, ◌+◌, ◌-◌, ◌/◌, ◌<◌, ◌^◌, ◌≤◌, List, [], ◌++◌, ◌∷◌, ⊎_elim, ap, refl, sym, ◌∙◌, ◌≡◌, div-one}
use Rattle.model.proofs.Logic.{add-one, arith, get_or, length, pow-add, pow_mono, ext_get_or}
use Rattle.model.specs.Fill.{over}
use Rattle.model.specs.Octa.{part, written, value_of, bytes_of}
use Rattle.model.proofs.Fill.{lt_or_le, length_over, over_in, over_below, over_above}
use Rattle.model.proofs.Octa.{length_written, written_below, written_above, part_written}

-- ---- read

value_suc : (h : ℕ) (l : List ℕ) (o n : ℕ) → value_of h (part l o (suc n)) ≡ value_of h (part l o n) * 256 + get_or l (o + n) 0
unfolding value_of part
value_suc h l o zero = ap (λ (k : ℕ). h * 256 + get_or l k 0) (omega arith)
value_suc h l o (suc n) = value_suc (h * 256 + get_or l o 0) l (suc o) n ∙ ap (λ (k : ℕ). value_of (h * 256 + get_or l o 0) (part l (suc o) n) * 256 + get_or l k 0) (omega arith)

-- one byte more
pub value_more : (l : List ℕ) (o n : ℕ) → value_of 0 (part l o (n + 1)) ≡ value_of 0 (part l o n) * 256 + get_or l (o + n) 0
value_more l o n = ap (λ (k : ℕ). value_of 0 (part l o k)) (add-one n) ∙ value_suc 0 l o n

pub value_none : (l : List ℕ) (o : ℕ) → value_of 0 (part l o 0) ≡ 0
unfolding value_of part
value_none l o = refl

pub grow : (v b k : ℕ) → v < 2 ^ (8 * k) → b < 256 → v * 256 + b < 2 ^ (8 * (k + 1))
grow v b k h l =
    let e : 2 ^ (8 * (k + 1)) ≡ 2 ^ (8 * k) * 256 = ap (λ (n : ℕ). 2 ^ n) (omega arith) ∙ pow-add 2 (8 * k) 8 in
    omega arith

-- three bytes leave room for one more
pub small : (v k : ℕ) → v < 2 ^ (8 * k) → k < 4 → v < 2 ^ 24
small v k h l =
    let e : 8 * k ≤ 24 = omega arith in
    let m : 2 ^ (8 * k) ≤ 2 ^ 24 = pow_mono {j = 24} e in
    omega arith

-- two halves
pub value_halves : (l : List ℕ) (o : ℕ) → value_of 0 (part l o 4) * 4294967296 + value_of 0 (part l (o + 4) 4) ≡ value_of 0 (part l o 8)
unfolding value_of part
value_halves l o =
    let e : o + 4 ≡ suc (suc (suc (suc o))) = omega arith in
    rw e (omega arith)

-- n bytes are below 256^n
pub value_below : (l : List ℕ) (o n : ℕ) → ((i : ℕ) → get_or l i 0 < 256) → value_of 0 (part l o n) < 2 ^ (8 * n)
value_below l o zero b = omega (arith, value_none l o)
value_below l o (suc n) b =
    let e : suc n ≡ n + 1 = omega arith in
    rw (e, value_more l o n) (grow (value_of 0 (part l o n)) (get_or l (o + n) 0) n (value_below l o n b) (b (o + n)))

-- ---- written

-- byte j of an octabyte
pub byte_at : (v j : ℕ) → j < 8 → v / 2 ^ (56 - 8 * j) % 256 ≡ get_or (bytes_of v) j 0
unfolding bytes_of
byte_at v zero h = refl
byte_at v (suc zero) h = refl
byte_at v (suc (suc zero)) h = refl
byte_at v (suc (suc (suc zero))) h = refl
byte_at v (suc (suc (suc (suc zero)))) h = refl
byte_at v (suc (suc (suc (suc (suc zero))))) h = refl
byte_at v (suc (suc (suc (suc (suc (suc zero)))))) h = refl
byte_at v (suc (suc (suc (suc (suc (suc (suc zero))))))) h = ap (λ (n : ℕ). n % 256) (div-one v)
byte_at v (suc (suc (suc (suc (suc (suc (suc (suc j)))))))) h = absurd (omega arith)

pub get_d_part : (l : List ℕ) (o n j : ℕ) → j < n → get_or (part l o n) j 0 ≡ get_or l (o + j) 0
unfolding part
get_d_part l o zero j h = absurd (omega arith)
get_d_part l o (suc n) zero h = ap (λ (k : ℕ). get_or l k 0) (omega arith)
get_d_part l o (suc n) (suc j) h = get_d_part l (suc o) n j (omega arith) ∙ ap (λ (k : ℕ). get_or l k 0) (omega arith)

-- what is written is a range of elements replaced
pub over_written : (l : List ℕ) (o : ℕ) (vs : List ℕ) (n : ℕ) → length vs ≡ n → o + n ≤ length l → over (λ k. get_or vs (k - o) 0) o (o + n) l ≡ written l o vs
over_written l o vs n e h =
    ext_get_or 0 (over f o (o + n) l) (written l o vs) (length_over f o (o + n) l ∙ sym (length_written l o vs))
    (λ k m. let z : k < length l = omega (arith, length_over f o (o + n) l) in
    ⊎_elim (λ lo. over_below f o (o + n) l k lo z ∙ sym (written_below l o vs k lo))
    (λ hi. ⊎_elim (λ lt. over_in f o (o + n) l k hi lt z ∙ sym (inside k hi lt))
    (λ ge. over_above f o (o + n) l k ge z ∙ sym (written_above l o vs k (omega arith)))
    (lt_or_le k (o + n)))
    (lt_or_le k o))
  where
    f : ℕ → ℕ
    f k = get_or vs (k - o) 0

    inside : (k : ℕ) → o ≤ k → k < o + n → get_or (written l o vs) k 0 ≡ get_or vs (k - o) 0
    inside k p q =
        let back : o + (k - o) ≡ k = omega arith in
        ap (λ (i : ℕ). get_or (written l o vs) i 0) (sym back)
        ∙ sym (get_d_part (written l o vs) o (length vs) (k - o) (omega arith))
        ∙ ap (λ (xs : List ℕ). get_or xs (k - o) 0) (part_written l o vs (omega arith))

pub eight : (v : ℕ) → length (bytes_of v) ≡ 8
unfolding bytes_of
eight v = refl

-- written in two parts
pub written_append : (l : List ℕ) (o : ℕ) (us vs : List ℕ) (m : ℕ) → m ≡ o + length us → written (written l o us) m vs ≡ written l o (us ++ vs)
unfolding written
written_append [] o us vs m e = refl
written_append (x ∷ xs) (suc o) us vs zero e = absurd (omega arith)
written_append (x ∷ xs) (suc o) us vs (suc m) e = ap (λ (r : List ℕ). x ∷ r) (written_append xs o us vs m (omega arith))
written_append (x ∷ xs) zero [] vs m e = ap (λ (k : ℕ). written (x ∷ xs) k vs) e
written_append (x ∷ xs) zero (u ∷ us) vs zero e = absurd (omega arith)
written_append (x ∷ xs) zero (u ∷ us) vs (suc m) e = ap (λ (r : List ℕ). u ∷ r) (written_append xs zero us vs m (omega arith))
