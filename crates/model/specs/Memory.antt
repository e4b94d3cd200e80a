-- 01, 'State and window': the window, and what a step may know of memory. 02, 'A second window': the two that a host lends.
-- A `Store` is a shape, which no write changes, and octabytes; a window is one, and so are the two together.
use Rattle.std.specs.Prelude.{ℕ, ◌+◌, ◌-◌, ◌%◌, ◌^◌, Bool, cond, ◌&&◌, ◌||◌, List, length, ◌==◌, nat_le, nat_lt}
use Rattle.model.specs.Octa.{octa, part, written, bytes_of}

-- "It is a lent byte slice and a base address"
pub record Window : Type 0 where
  pub base : ℕ
  pub bytes : List ℕ

-- base and length: all of a window that judging may see
pub record Shape : Type 0 where
  pub from : ℕ
  pub size : ℕ

unfoldable pub shape_of : Window → Shape
shape_of w = record { from = w.base; size = length w.bytes }

abbrev pub window_max : ℕ
window_max = 1048576

-- Its length is a multiple of 8, from 0 to 1,048,576; its base is a multiple of 8 (and, as an address, below 2^64)
unfoldable pub ruled_one : Shape → Bool
ruled_one w = w.from % 8 == 0 && (nat_lt w.from (2 ^ 64) && (w.size % 8 == 0 && nat_le w.size window_max))

-- "Distances from the base wrap at 2^64, so a window may cross the end of memory": of the octabyte that a names
unfoldable pub offset : ℕ → ℕ → ℕ
offset base a = (octa a + (2 ^ 64 - base % 2 ^ 64)) % 2 ^ 64

-- the octabyte that a names lies in the window
unfoldable pub has : Shape → ℕ → Bool
has w a = nat_le (offset w.from a + 8) w.size

-- its eight bytes
unfoldable pub octa_bytes : Window → ℕ → List ℕ
octa_bytes w a = part w.bytes (offset w.base a) 8

-- it becomes v
unfoldable pub write_octa : Window → ℕ → ℕ → Window
write_octa w a v = record { base = w.base; bytes = written w.bytes (offset w.base a) (bytes_of v) }

pub record Store (M Sh : Type 0) : Type 0 where
  pub shape : M → Sh
  pub inside : Sh → ℕ → Bool
  pub raw : M → ℕ → List ℕ
  pub put : M → ℕ → ℕ → M

unfoldable pub one : Store Window Shape
one = record { shape = shape_of; inside = has; raw = octa_bytes; put = write_octa }

-- ---- the memory that a host lends: "Programs and curves live low in memory and the stack at 0x6000000000000000, so the host wants to lend two windows",
-- A and B, the stack's. What follows speaks of it by these names

pub record Windows : Type 0 where
  pub a : Window
  pub b : Window

-- base and length of each
pub record Shapes : Type 0 where
  pub a : Shape
  pub b : Shape

unfoldable pub shapes_of : Windows → Shapes
shapes_of m = record { a = shape_of m.a; b = shape_of m.b }

-- "Reading or writing an octabyte now tells which of the two held it": 1 for B, 0 for A; 2 where neither has the octabyte that x names
unfoldable pub holder : Shapes → ℕ → ℕ
holder w x = cond (has w.b x) 1 (cond (has w.a x) 0 2)

-- the octabyte that x names is lent: "number 6 means in neither"
unfoldable pub inside : Shapes → ℕ → Bool
inside w x = has w.b x || has w.a x

-- its eight bytes: B's where B has it, else A's
unfoldable pub octa_at : Windows → ℕ → List ℕ
octa_at m x = cond (has (shape_of m.b) x) (octa_bytes m.b x) (octa_bytes m.a x)

-- it becomes v, in B where B has it, else in A; the other window stays
unfoldable pub put_octa : Windows → ℕ → ℕ → Windows
put_octa m x v = cond (has (shape_of m.b) x) (record { a = m.a; b = write_octa m.b x v }) (record { a = write_octa m.a x v; b = m.b })

-- "One step may use both"
unfoldable pub both : Store Windows Shapes
both = record { shape = shapes_of; inside = inside; raw = octa_at; put = put_octa }

-- each window obeys its rule, an empty one too
unfoldable pub ruled : Shapes → Bool
ruled w = ruled_one w.a && ruled_one w.b

-- "the two windows share an octabyte": the first octabyte of one lies in the other; an empty window has none
unfoldable pub shares : Shapes → Bool
shares w = (nat_lt 0 w.b.size && has w.a w.b.from) || (nat_lt 0 w.a.size && has w.b w.a.from)
