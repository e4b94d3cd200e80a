-- `widens` meets its contract: its tests are those of the definition, and no room is left where the line itself finds none.
use Rattle.model.proofs.Prelude.{ℕ, ◌≤◌, ◌-◌, ◌≡◌, ◌∙◌, sym, arith, dec_le, leb, le-leb, lt-leb}
use Rattle.point_lines.specs.Line.{length_digits, state_digits, state_end, gained, widens}
use Rattle.point_lines.proofs.Padded.{widens_here, many_lengths, many_state, state_cut, little_room}
use Rattle.point_lines.proofs.anew.widens.Goals as goal

pub returns-then-w-gt-LENGTH_DIGITS : goal.returns-then-w-gt-LENGTH_DIGITS
returns-then-w-gt-LENGTH_DIGITS c =
    let a = c.args in
    sym (many_lengths a.room a.n a.w a.d c.if-w-gt-LENGTH_DIGITS.true)

pub returns-then-d-gt-STATE_DIGITS : goal.returns-then-d-gt-STATE_DIGITS
returns-then-d-gt-STATE_DIGITS c =
    let a = c.args in
    sym (many_state a.room a.n a.w a.d (omega arith) c.if-d-gt-STATE_DIGITS.true)

pub returns-then-n-w : goal.returns-then-n-w
returns-then-n-w c =
    let a = c.args in
    sym (state_cut a.room a.n a.w a.d (omega arith) (omega arith) c.if-n-w.true)

pub returns-then-room-n : goal.returns-then-room-n
returns-then-room-n c =
    let a = c.args in
    sym (little_room a.room a.n a.w a.d (omega arith) (omega arith) (omega arith) (omega arith))

-- the last test
last : (room n w d : ℕ) → w ≤ length_digits → d ≤ state_digits → state_end w d ≤ n → n ≤ room → leb (gained w d) (room - n) ≡ widens room n w d
last room n w d e f g h = go (dec_le (gained w d) (room - n))
  where
    go : Dec (gained w d ≤ room - n) → leb (gained w d) (room - n) ≡ widens room n w d
    go (yes k) = le-leb (gained w d) (room - n) k ∙ sym (widens_here room n w d e f g (omega arith))
    go (no k) = lt-leb (gained w d) (room - n) (omega arith) ∙ sym (little_room room n w d e f g (omega arith))

pub returns : goal.returns
returns c = let a = c.args in last a.room a.n a.w a.d (omega arith) (omega arith) (omega arith) (omega arith)
