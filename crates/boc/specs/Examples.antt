-- Worked cases that antt computes: another number of words than a record or a request has.
use Rattle.std.specs.Prelude.{◌≡◌, refl, List, [], ℕ}
use Rattle.reader.specs.Words.{read_words_is}
use Rattle.boc.specs.Calls.{nowhere, read_number, read_place, told_number, told_entry, told_place, decide_answer}

read-519 : (s : List ℕ) (n : ℕ) → (read_number s n 519 ≡ 9) × (read_place s n 519 77 ≡ nowhere)
unfolding read_words_is
read-519 s n = (refl, refl)

decide-nothing : (b : List ℕ) → let d = decide_answer b [] in
    (told_number d ≡ 9) × (told_entry d 77 ≡ nowhere) × (told_place d 77 ≡ nowhere)
unfolding decide_answer
decide-nothing b = (refl, refl, refl)
