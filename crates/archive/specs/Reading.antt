-- What bytes say as an archive, and which bytes are one.
use Rattle.std.specs.Prelude.{◌≡◌, Bool, ◌&&◌, List, [], ◌∷◌, ℕ, zero, suc, ◌+◌, ◌*◌, length, get_or, take, drop, leb, eqb}
use Rattle.bits.specs.Bits.{pick}
use Rattle.bits.specs.Frame.{bytes_for}
use Rattle.archive.specs.Model.{Held, Archive, Rising, header_width, entry_width, length_of}
use Rattle.archive.specs.Filing.{well_formed}
use Rattle.archive.specs.declared.contents.Entry.{Entry}

-- the numbers of two and three bytes at a place
abbrev pub number2 : List ℕ → ℕ → ℕ
number2 b at = get_or b at 0 * 256 + get_or b (at + 1) 0

abbrev pub number3 : List ℕ → ℕ → ℕ
number3 b at = get_or b at 0 * 65536 + get_or b (at + 1) 0 * 256 + get_or b (at + 2) 0

-- the home network, 0 where there is no header
unfoldable pub home_of : List ℕ → ℕ
home_of b = pick (leb header_width (length b)) (number3 b 0) 0

abbrev pub count_of : List ℕ → ℕ
count_of b = number2 b 3

abbrev pub entry_at : List ℕ → ℕ → Entry
entry_at b at = record {
  key = record { network = number3 b at; ssi = number3 b (at + 3); part = get_or b (at + 6) 0 };
  bits = record { 0 = number2 b (at + 7) };
  day = number2 b (at + 9);
}

-- the bytes that the body of the entry at a place has
abbrev pub size_at : List ℕ → ℕ → ℕ
size_at b at = bytes_for (entry_at b at).bits.0

abbrev pub held_at : List ℕ → ℕ → ℕ → Held
held_at b at off = record { entry = entry_at b at; body = take (size_at b at) (drop off b) }

-- n PDUs, whose contents begin at one place and whose bodies begin at another
unfoldable pub held_from : List ℕ → ℕ → ℕ → ℕ → List Held
held_from b zero at off = []
held_from b (suc n) at off = held_at b at off ∷ held_from b n (at + entry_width) (off + size_at b at)

-- where the bodies begin
abbrev pub bodies_at : List ℕ → ℕ
bodies_at b = header_width + entry_width * count_of b

abbrev pub held_in : List ℕ → List Held
held_in b = held_from b (count_of b) header_width (bodies_at b)

unfoldable pub reading : List ℕ → Archive
reading b = record { home = number3 b 0; held = held_in b }

-- the archive that the bytes say keeps the rules, and is as long as they are
unfoldable pub is_archive : List ℕ → Bool
is_archive b = well_formed (reading b) && eqb (length_of (reading b)) (length b)

-- the entry count is the number of PDUs held, each for another user and part; the length is that of header, contents and bodies
pub record Counted (b : List ℕ) : Type 0 where
  pub count : count_of b ≡ length (reading b).held
  pub once : Rising 0 (reading b).held
  pub size : length b ≡ length_of (reading b)
