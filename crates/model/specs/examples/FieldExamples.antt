-- Theorem 14. Fields, computed: offsets 0 and ±4, the last of each direction and the one beyond it, misaligned addresses, distances that wrap at 2^64, and
-- addresses 2^63 apart; of both kinds.
use Rattle.std.specs.Prelude.{◌≡◌, ℕ, ◌+◌, ◌-◌, ◌*◌, ◌^◌, Bool, true, ◌&&◌, List, [], ◌∷◌, ◌++◌, ◌==◌}
use Rattle.model.specs.Control.{branch_fields, jump_fields}
use Rattle.model.specs.Field.{field_of, FieldAnswer, answer_of}

-- of `size` fields, from one address to another: the number, and the two values
pub record FieldExample : Type 0 where
  pub size : ℕ
  pub from : ℕ
  pub to : ℕ
  pub answer : FieldAnswer

abbrev example : ℕ → ℕ → ℕ → ℕ → ℕ → ℕ → FieldExample
example size from to r b f = record { size = size; from = from; to = to; answer = record { reply = r; backward = b; field = f } }

abbrev forth : ℕ → ℕ → ℕ → ℕ → FieldExample
forth size from to f = example size from to 0 0 f

abbrev back : ℕ → ℕ → ℕ → ℕ → FieldExample
back size from to f = example size from to 0 1 f

abbrev beyond : ℕ → ℕ → ℕ → FieldExample
beyond size from to = example size from to 21 0 0

-- around an address that has room on both sides: there, the last field forward and the last backward, the address beyond each
abbrev around : ℕ → ℕ → List FieldExample
around size last =
    forth size 0x40000000 0x40000000 0 ∷ forth size 0x40000000 0x40000004 1 ∷ back size 0x40000000 0x3ffffffc last
    ∷ forth size 0x40000000 (0x40000000 + 4 * last) last ∷ beyond size 0x40000000 (0x40000004 + 4 * last)
    ∷ back size 0x40000000 (0x3ffffffc - 4 * last) 0 ∷ beyond size 0x40000000 (0x3ffffff8 - 4 * last)
    -- the distance is no multiple of 4; two addresses that are misaligned alike
    ∷ beyond size 0x40000000 0x40000001 ∷ beyond size 0x40000000 0x40000002 ∷ beyond size 0x40000000 0x40000003
    ∷ beyond size 0x40000001 0x40000000 ∷ beyond size 0x40000002 0x40000000 ∷ beyond size 0x40000003 0x40000000
    ∷ forth size 0x40000001 0x40000005 1 ∷ back size 0x40000003 0x3fffffff last
    -- past 2^64, up and down
    ∷ forth size 0xfffffffffffffffc 0 1 ∷ forth size (2 ^ 64 - 4 * last) 0 last ∷ beyond size (2 ^ 64 - 4 - 4 * last) 0
    ∷ back size 0 0xfffffffffffffffc last ∷ back size 0 (2 ^ 64 - 4 - 4 * last) 0 ∷ beyond size 0 (2 ^ 64 - 8 - 4 * last)
    ∷ forth size 0xffffffffffffffff 3 1 ∷ back size 3 0xffffffffffffffff last
    -- 2^63 apart
    ∷ beyond size 0 (2 ^ 63) ∷ beyond size (2 ^ 63) 0 ∷ beyond size 4 (2 ^ 63) ∷ beyond size (2 ^ 63) 4 ∷ []

unfoldable pub field_examples : List FieldExample
field_examples = around branch_fields 65535 ++ around jump_fields 16777215

abbrev same_answer : FieldAnswer → FieldAnswer → Bool
same_answer a b = a.reply == b.reply && (a.backward == b.backward && a.field == b.field)

unfoldable pub all_found : List FieldExample → Bool
all_found [] = true
all_found (p ∷ ps) = same_answer (answer_of (field_of p.size p.from p.to)) p.answer && all_found ps

abbrev pub FieldExamplesMet : Type 0
FieldExamplesMet = all_found field_examples ≡ true
