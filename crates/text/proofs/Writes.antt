-- Laws of text put into a buffer: one text after another, a number digit by digit, a pattern byte by byte. And how long each can be.
use Rattle.model.proofs.Prelude.{suc, zero, ℕ, ◌%◌, ◌+◌, ◌-◌, ◌/◌, ◌<◌, ◌^◌, ◌≤◌, Bool, cond, false, true, List, [], ◌++◌, ◌∷◌, ap, refl, sym, ◌∙◌, ◌≡◌, ◌⊎◌, inl, inr, mod-eq_of_lt}
use Rattle.model.proofs.Prelude.{add-one, arith, eqb, ltb, drop, drop_of_length-le, get_or, get_or_eq_default, length, length-append, set, take, drop-cons}
use Rattle.model.proofs.Prelude.{set_out, le-leb, le-ltb, lt-leb, lt-ltb, ne_eqb, written, on, written_append, written_nil}
use Rattle.text.specs.Codes.{codes}
use Rattle.std.specs.Prelude.{Option, Some, None, unwrap_or}
use Rattle.std.specs.Option.{option_copied}
use Rattle.std.specs.Slice.Iter.{iter_rest, iter_steps}
use Rattle.std.proofs.Common.{Bor, Iter}
use Rattle.text.specs.Text.{glyph, numeral, hexadecimal, decimal, hex_mark, decimal_mark, filled, bad_line, bad_text}
use Rattle.text.specs.Writing.{Wrote, pattern_most, put_at}
pub use Rattle.model.proofs.Slices.{written_one}

-- ---- one text after another

pub wrote_byte : (b : List ℕ) (at v : ℕ) (c : List ℕ) → c ≡ set b at v → Wrote b at (v ∷ []) c (at + 1)
wrote_byte b at v c e = record { bytes_are = e ∙ sym (written_one b at v); end_is = refl }

-- where the buffer has no such place
pub wrote_past : (b : List ℕ) (at v : ℕ) (c : List ℕ) → length b ≤ at → c ≡ b → Wrote b at (v ∷ []) c (at + 1)
wrote_past b at v c h e = wrote_byte b at v c (e ∙ sym (set_out b at v h))

pub wrote_nothing : (b : List ℕ) (at : ℕ) → Wrote b at [] b at
wrote_nothing b at = record { bytes_are = sym (written_nil b at); end_is = omega arith }

wrote_both : (b : List ℕ) (at : ℕ) (t c : List ℕ) (m : ℕ) (u d : List ℕ) (n : ℕ) → Wrote b at t c m → Wrote c m u d n → Wrote b at (t ++ u) d n
wrote_both b at t c m u d n p q = record {
  bytes_are = q.bytes_are ∙ ap (λ (l : List ℕ). written l m u) p.bytes_are ∙ written_append b at t u m p.end_is;
  end_is = omega (arith, p.end_is, q.end_is, length-append t u);
}

pub wrote_as : (b : List ℕ) (at : ℕ) (t u c : List ℕ) (n : ℕ) → t ≡ u → Wrote b at t c n → Wrote b at u c n
wrote_as b at t u c n e p = rw (← e) p

-- a text at the front of a buffer that has room for it
pub take_written : (b t : List ℕ) → length t ≤ length b → take (length t) (written b 0 t) ≡ t
unfolding written
take_written b [] h = refl
take_written [] (v ∷ t) h = absurd (omega arith)
take_written (x ∷ b) (v ∷ t) h = ap (λ (u : List ℕ). v ∷ u) (take_written b t (omega arith))

pub wrote_front : (b t c : List ℕ) (n : ℕ) → length t ≤ length b → Wrote b 0 t c n → (take n c ≡ t) × (n ≤ length b)
wrote_front b t c n h w =
    let e : n ≡ length t = omega (arith, w.end_is) in
    (rw (w.bytes_are, e) (take_written b t h), omega arith)

-- a text that is put at a place of one buffer gives what another text gives at a place of another: how a loop that writes goes on
pub record Leads (c : List ℕ) (next : ℕ) (u b : List ℕ) (at : ℕ) (t : List ℕ) : Type 0 where
  pub same_bytes : written c next u ≡ written b at t
  pub same_end : next + length u ≡ at + length t

pub leads_whole : (b : List ℕ) (at : ℕ) (t : List ℕ) → Leads b at t b at t
leads_whole b at t = record { same_bytes = refl; same_end = refl }

module _ (b : List ℕ) (at : ℕ) (t c : List ℕ) (next : ℕ) where
  -- a part of what is left is put there
  pub leads_on : (u v w d : List ℕ) (m : ℕ) → Leads c next u b at t → u ≡ v ++ w → Wrote c next v d m → Leads d m w b at t
  leads_on u v w d m h e p = record {
    same_bytes = ap (λ (l : List ℕ). written l m w) p.bytes_are ∙ written_append c next v w m p.end_is ∙ ap (written c next) (sym e) ∙ h.same_bytes;
    same_end = omega (arith, p.end_is, h.same_end, ap length e, length-append v w);
  }

  -- all that is left is put there
  pub leads_last : (u v d : List ℕ) (m : ℕ) → Leads c next u b at t → u ≡ v → Wrote c next v d m → Wrote b at t d m
  leads_last u v d m h e p = record {
    bytes_are = p.bytes_are ∙ ap (written c next) (sym e) ∙ h.same_bytes;
    end_is = omega (arith, p.end_is, h.same_end, ap length e);
  }

  -- nothing is left
  pub leads_end : (u : List ℕ) → Leads c next u b at t → u ≡ [] → Wrote b at t c next
  leads_end u h e = leads_last u [] c next h e (wrote_nothing c next)

-- ---- a number

pub length_numeral : (b k n : ℕ) → length (numeral b k n) ≤ suc k
unfolding numeral
length_numeral b zero n = omega arith
length_numeral b (suc k) n =
    on (λ (l : List ℕ). length l ≤ suc (suc k)) (ltb n b) (λ e. omega arith)
    (λ e. omega (arith, length-append (numeral b k (n / b)) (glyph (n % b) ∷ []), length_numeral b k (n / b)))

module _ (b : List ℕ) (at base more n : ℕ) (c : List ℕ) where
  pub numeral_last : (m : ℕ) → (more ≡ 0) ⊎ ((more ≡ 0 → ⊥) × (n < base)) → Wrote b at (glyph (n % base) ∷ []) c m → Wrote b at (numeral base more n) c m
  unfolding numeral
  numeral_last m h p = wrote_as b at _ (numeral base more n) c m (last more h) p
    where
      last : (k : ℕ) → (k ≡ 0) ⊎ ((more ≡ 0 → ⊥) × (n < base)) → glyph (n % base) ∷ [] ≡ numeral base k n
      last zero h = refl
      last (suc k) (inl e) = absurd (omega arith)
      last (suc k) (inr l) = rw (lt-ltb n base l.1, mod-eq_of_lt l.1)

  pub numeral_more : (m : ℕ) (d : List ℕ) (r : ℕ) → (more ≡ 0 → ⊥) → base ≤ n → Wrote b at (numeral base (more - 1) (n / base)) c m
      → Wrote c m (glyph (n % base) ∷ []) d r → Wrote b at (numeral base more n) d r
  unfolding numeral
  numeral_more m d r z h p q = wrote_as b at _ (numeral base more n) d r (large more z) (wrote_both b at _ c m _ d r p q)
    where
      large : (k : ℕ) → (k ≡ 0 → ⊥) → numeral base (k - 1) (n / base) ++ (glyph (n % base) ∷ []) ≡ numeral base k n
      large zero f = absurd (f refl)
      large (suc k) f = let e : suc k - 1 ≡ k = omega arith in rw (le-ltb n base h, e)

-- ---- a pattern

-- its next byte, with the next field
module _ (p vs : List ℕ) (i : ℕ) (h : i < length p) where
  pub filled_hex : get_or p i 0 ≡ hex_mark → filled (drop i p) vs ≡ hexadecimal (get_or vs 0 0) ++ filled (drop (i + 1) p) (drop 1 vs)
  unfolding filled
  filled_hex e = rw (drop-cons p i 0 h, e, add-one)

  pub filled_decimal : get_or p i 0 ≡ decimal_mark → filled (drop i p) vs ≡ decimal (get_or vs 0 0) ++ filled (drop (i + 1) p) (drop 1 vs)
  unfolding filled
  filled_decimal e = rw (drop-cons p i 0 h, e, add-one)

  pub filled_plain : (get_or p i 0 ≡ hex_mark → ⊥) → (get_or p i 0 ≡ decimal_mark → ⊥)
      → filled (drop i p) vs ≡ (get_or p i 0 ∷ []) ++ filled (drop (i + 1) p) vs
  unfolding filled
  filled_plain e f = rw (drop-cons p i 0 h, ne_eqb _ _ e, ne_eqb _ _ f, add-one)

pub filled_past : (p vs : List ℕ) (i : ℕ) → length p ≤ i → filled (drop i p) vs ≡ []
unfolding filled
filled_past p vs i h = rw (drop_of_length-le p h)

-- the next field, as an iterator over the fields gives it
pub field_is : (s t : Iter ℕ) (r : Option (Bor ℕ)) → iter_steps s r t → unwrap_or (option_copied r) 0 ≡ get_or (iter_rest s) 0 0
field_is s t None h = sym (get_or_eq_default (iter_rest s) 0 (omega (arith, h.0)))
field_is s t (Some x) h = rw h

pub fields_left : (s t : Iter ℕ) (r : Option (Bor ℕ)) → iter_steps s r t → iter_rest t ≡ drop 1 (iter_rest s)
fields_left s t None h = rw (h.1, drop_of_length-le (iter_rest s) {i = 1} (omega (arith, h.0))) (drop_of_length-le (iter_rest s) {i = 0} (omega (arith, h.0)))
fields_left s t (Some x) h = rw h

-- how long what a byte of a pattern stands for can be, and a pattern filled in
unfoldable pub piece_most : ℕ → ℕ
piece_most c = cond (eqb c hex_mark) 16 (cond (eqb c decimal_mark) 20 1)

unfoldable pub filled_most : List ℕ → ℕ
filled_most [] = 0
filled_most (c ∷ p) = piece_most c + filled_most p

pub length_filled : (p vs : List ℕ) → length (filled p vs) ≤ filled_most p
unfolding filled filled_most piece_most
length_filled [] vs = omega arith
length_filled (c ∷ p) vs = go (eqb c hex_mark) (eqb c decimal_mark) (length_filled p vs) (length_filled p (drop 1 vs))
  where
    n : ℕ
    n = get_or vs 0 0

    go : (s t : Bool) → length (filled p vs) ≤ filled_most p → length (filled p (drop 1 vs)) ≤ filled_most p
        → length (cond s (hexadecimal n ++ filled p (drop 1 vs)) (cond t (decimal n ++ filled p (drop 1 vs)) (c ∷ filled p vs)))
        ≤ cond s 16 (cond t 20 1) + filled_most p
    go true t h i = omega (arith, length-append (hexadecimal n) (filled p (drop 1 vs)), length_numeral 16 15 n)
    go false true h i = omega (arith, length-append (decimal n) (filled p (drop 1 vs)), length_numeral 10 19 n)
    go false false h i = omega arith

-- ---- at a place, whatever place and pattern

module _ (at : ℕ) (p vs : List ℕ) where
  pub put_here : at < 2 ^ 63 → length p ≤ pattern_most → filled p vs ≡ put_at at p vs
  unfolding put_at
  put_here h k = rw (lt-ltb at (2 ^ 63) h, le-leb (length p) pattern_most k)

  pub put_none : (2 ^ 63 ≤ at) ⊎ ((at < 2 ^ 63) × (pattern_most < length p)) → [] ≡ put_at at p vs
  unfolding put_at
  put_none (inl h) = rw (le-ltb at (2 ^ 63) h)
  put_none (inr h) = rw (lt-ltb at (2 ^ 63) h.0, lt-leb (length p) pattern_most h.1)

  pub wrote_here : (b c : List ℕ) (n : ℕ) → at < 2 ^ 63 → length p ≤ pattern_most → Wrote b at (put_at at p vs) c n → Wrote b at (filled p vs) c n
  wrote_here b c n h k q = wrote_as b at (put_at at p vs) (filled p vs) c n (sym (put_here h k)) q

short_bad : length bad_line ≤ pattern_most
unfolding bad_line codes
short_bad = omega arith

pub wrote_bad : (b : List ℕ) (at n : ℕ) (c : List ℕ) (end : ℕ) → at < 2 ^ 63 → Wrote b at (put_at at bad_line (n ∷ [])) c end → Wrote b at (bad_text n) c end
unfolding bad_text
wrote_bad b at n c end h q = wrote_here at bad_line (n ∷ []) b c end h short_bad q

bad_most_law : filled_most bad_line ≡ 27
unfolding filled_most piece_most bad_line codes
bad_most_law = refl

pub length_bad : (n : ℕ) → length (bad_text n) ≤ 27
unfolding bad_text
length_bad n = omega (arith, length_filled bad_line (n ∷ []), bad_most_law)
