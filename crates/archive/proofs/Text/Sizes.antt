-- No listing has more than 23,066 bytes: 26 for the first line, and 45 for each of at most 512 entries. Assumes nothing.
use Rattle.std.specs.Prelude.{Result, Ok, Err, Option, Some, None, ℕ}
use mathlib.Core.Path.{◌≡◌, refl, ap}
use mathlib.Core.Bool.{Bool, true, false}
use mathlib.Core.List.{List, [], ◌∷◌}
use Prim.Native.Nat.{ℕ, ◌*◌, ◌≤◌, ◌<◌}
use native.Mathlib.Omega.{arith}
use lib.ListN.{length, length-append}
use lib.Dec.{leb}
use borrow.Author.Tests.{leb-true, le-leb}
use Rattle.bits.specs.Bits.{pick}
use Rattle.reader.specs.Read.{found_in, read_is}
use Rattle.pdu.proofs.Accepted.{accepted-framed}
use Rattle.archive.specs.Model.{Held, rank}
use Rattle.archive.specs.Filing.{keeps_rules}
use Rattle.archive.specs.Reading.{reading, is_archive}
use Rattle.archive.specs.Keeping.{over}
use Rattle.archive.specs.Checking.{check_is, if_archive}
use Rattle.text.specs.Decimal.{decimal, item}
use Rattle.archive.specs.Listing.{entry_word, bit_word, line_end, first_line, line, lines, listing, refused_line, report_of, fault_text, told_of}
use Rattle.archive.specs.Listing.{length_within, report_is, report_out, told_out}
use Rattle.archive.specs.declared.contents.Key.{Key}
use Rattle.archive.proofs.Model.Bodies.{Agrees, agrees-says, part-is, key_fits}
use Rattle.archive.proofs.Model.Rules.{kept, archive-formed}
use Rattle.archive.proofs.Model.Checked.{checked-archive}
use Rattle.text.proofs.Decimals.{within, decimal-size}
use Rattle.archive.proofs.Text.Lines.{length-line, length_two, length-first}
use Rattle.archive.specs.declared.refusal.Refusal.{Refusal}

-- network and SSI have at most 8 digits, the part 1, the bit length 4, the day 5
line-size : (home : ℕ) (h : Held) → home < 16777216 → Agrees home h → h.entry.day < 65536 → length (line h.entry) ≤ 45
line-size home h k a d =
    let e = h.entry in
    let n = e.bits.0 in
    let f = key_fits home h k a in
    let network : e.key.network < 100000000 = omega (arith, f.network) in
    let ssi : e.key.ssi < 100000000 = omega (arith, f.ssi) in
    let part : e.key.part < 10 = omega (arith, ap (λ (y : Key). y.part) a.key, (part-is (found_in (read_is h.body n)) a.may).1) in
    let bits : n < 10000 = omega (arith, (accepted-framed h.body n a.accepted).short) in
    let day : e.day < 100000 = omega arith in
    omega (
      arith,
      length-line e,
      within 7 e.key.network network,
      within 7 e.key.ssi ssi,
      within 0 e.key.part part,
      within 3 n bits,
      within 4 e.day day,
    )

lines-size : (home last : ℕ) (hs : List Held) → home < 16777216 → keeps_rules home last hs ≡ true → length (lines hs) ≤ 45 * length hs
unfolding lines
lines-size home last [] k e = omega arith
lines-size home last (h ∷ hs) k e =
    let u = kept home last h hs e in
    let l = line-size home h k (agrees-says home h u.agrees) u.day in
    let rest = lines-size home (rank h) hs k u.others in
    omega (arith, length-append (line h.entry) (lines hs), l, rest)

pub listing-size : (b : List ℕ) → is_archive b ≡ true → length (listing (reading b)) ≤ 23066
unfolding listing
listing-size b ok =
    let a = reading b in
    let f = archive-formed b ok in
    let home : a.home < 100000000 = omega (arith, f.home) in
    let count : length a.held < 1000 = omega (arith, f.few) in
    let first = length-first a.home (length a.held) in
    let all = length-append (first_line a.home (length a.held)) (lines a.held) in
    omega (
      arith,
      all,
      first,
      within 7 a.home home,
      within 2 (length a.held) count,
      lines-size a.home 0 a.held f.home
          f.rules,
      f.few,
    )

-- ---- the report

-- what is reported fits the lent buffers
no_longer : (w : List ℕ) (room : ℕ) → length_within w room ≤ room
no_longer w room = go (leb (length w) room) refl
  where
    go : (p : Bool) → leb (length w) room ≡ p → pick p (length w) 0 ≤ room
    go true e = leb-true (length w) room e
    go false e = omega arith

pub report-fits : (b : List ℕ) (room more : ℕ) → ((report_is b room more).printed ≤ room) × ((report_is b room more).told ≤ more)
unfolding report_is
report-fits b room more = (no_longer (report_of b) room, no_longer (told_of b) more)

report-size : (b : List ℕ) → length (report_of b) ≤ 23066
unfolding report_of
report-size b = go (check_is b) refl
  where
    go : (c : Result (Unit {0}) Refusal) → check_is b ≡ c → length (if_archive c (λ f. refused_line) (listing (reading b))) ≤ 23066
    go (Ok _) e = listing-size b (checked-archive b e)
    go (Err f) e = omega arith

-- `entry `, a number, ` bit `, a number, a line end
fault-size : (e : Option ℕ) (p : Option ℕ) → length (fault_text e p) ≤ 52
unfolding fault_text item
fault-size None p = omega arith
fault-size (Some i) None = omega (arith, length-append (decimal i) line_end, decimal-size i)
fault-size (Some i) (Some p) = omega (arith, length_two entry_word i bit_word p, decimal-size i, decimal-size p)

told-size : (b : List ℕ) → length (told_of b) ≤ 52
unfolding told_of
told-size b = go (check_is b)
  where
    go : (c : Result (Unit {0}) Refusal) → length (if_archive c (λ f. fault_text f.entry f.place) []) ≤ 52
    go (Ok _) = omega arith
    go (Err f) = fault-size f.entry f.place

-- buffers of 23,066 and of 52 bytes hold every report
pub report-whole : (b out told : List ℕ) → 23066 ≤ length out → 52 ≤ length told
    → (report_is b (length out) (length told) ≡ record { printed = length (report_of b); told = length (told_of b) })
    × (report_out b out ≡ over (report_of b) out) × (told_out b told ≡ over (told_of b) told)
unfolding report_is report_out told_out
report-whole b out told h k =
    let e = le-leb (length (report_of b)) (length out) (omega (arith, report-size b)) in
    let f = le-leb (length (told_of b)) (length told) (omega (arith, told-size b)) in
    (rw (e, f), rw e, rw f)
