-- Worked cases that antt computes: profile A put back, a number part put back in each target, removals, each refusal and their order.
use Rattle.std.specs.Prelude.{◌≡◌, refl, true, false, List, [], ◌∷◌, ◌++◌, ℕ, take, drop, replicate, Some, Ok}
use Rattle.bits.specs.Frame.{pack, bytes_of}
use Rattle.archive.specs.Refusals.{plain, of_body}
use Rattle.archive.specs.Model.{in_range}
use Rattle.archive.specs.Filing.{filing_of, body_agrees}
use Rattle.archive.specs.Examples.{calls, part_of5, bytes_a}
use Rattle.archive.specs.declared.contents.Key.{Key}
use Rattle.archive.specs.declared.refusal.Refusal.{Refusal}
use Rattle.writer.specs.Write.{record_refusal, write_refusal, write_is}
use Rattle.reload.specs.Define.{is_definition, define_of, stands_in}
use Rattle.reload.specs.Reload.{reloaded_refusal, reload_is, reload_out}
use Rattle.reload.specs.declared.Definition.{Definition}
use Rattle.reload.specs.declared.Target.{Target}
use Rattle.reload.specs.declared.Target.TheVariants.{Define, DefineExternal}

abbrev asked : ℕ → ℕ → ℕ → Definition
asked definition delivery acknowledgement = record { definition = definition; delivery = delivery; acknowledgement = acknowledgement }

abbrev lent : ℕ → List ℕ
lent n = replicate n 0

-- `unfolding computed` opens all of it
unfoldable computed : Unit {0}
unfolding calls body_agrees filing_of in_range write_is write_refusal record_refusal is_definition define_of stands_in reload_is reload_out pack bytes_of
computed = tt

-- ---- what may be asked for: three definition types; an acknowledgement only with delivery

definitions : (is_definition (asked 0 0 0) ≡ true) × (is_definition (asked 1 1 0) ≡ true) × (is_definition (asked 2 1 1) ≡ true)
    × (is_definition (asked 3 0 0) ≡ false) × (is_definition (asked 0 2 0) ≡ false) × (is_definition (asked 0 1 2) ≡ false)
    × (is_definition (asked 0 0 1) ≡ false)
unfolding computed
definitions = (refl, refl, refl, refl, refl, refl, refl)

-- ---- profile A as a replacement with delivery: 137 bits, one bit less than the INTERROGATE ACK

abbrev define_a : List ℕ
define_a =
    0x48 ∷ 0xa2 ∷ 0x00 ∷ 0x00 ∷ 0x0a ∷ 0x92 ∷ 0x42 ∷ 0x40 ∷ 0x00 ∷ 0x19 ∷ 0x00 ∷ 0x00 ∷ 0x18 ∷ 0xe1 ∷ 0x00 ∷ 0x00 ∷ 0x96 ∷ 0x00 ∷ []

put_back : (reload_is Define bytes_a (part_of5 1) (asked 1 1 0) (lent 20) ≡ Ok (record { 0 = 137 }))
    × (reload_out Define bytes_a (part_of5 1) (asked 1 1 0) (replicate 20 255) ≡ define_a ++ (255 ∷ 255 ∷ []))
unfolding computed
put_back = (refl, refl)

-- ---- other parts of user 5, each the only PDU of an archive of home network 1

abbrev holding : ℕ → ℕ → List ℕ → List ℕ
holding part length body =
    0x00 ∷ 0x00 ∷ 0x01 ∷ 0x00 ∷ 0x01 ∷ 0x00 ∷ 0x00 ∷ 0x01 ∷ 0x00 ∷ 0x00 ∷ 0x05 ∷ part ∷ 0x00 ∷ length ∷ 0x01 ∷ 0x2c ∷ body

-- a number part: group 500 of network 2, the numbers 112 and 0, the exception +
abbrev full : List ℕ
full =
    holding 2 147
    (0x49 ∷ 0x82 ∷ 0x00 ∷ 0x00 ∷ 0x0a ∷ 0x49 ∷ 0x02 ∷ 0x00 ∷ 0x03 ∷ 0xe9 ∷ 0x00 ∷ 0x00 ∷ 0x02 ∷ 0x21 ∷ 0x88 ∷ 0x90 ∷ 0x40 ∷ 0x43 ∷ 0x80 ∷ [])

-- number parts with one list that is not empty: group 500; the number 112; the exception 112
abbrev grouped : List ℕ
grouped = holding 2 88 (0x49 ∷ 0x82 ∷ 0x00 ∷ 0x00 ∷ 0x0a ∷ 0x41 ∷ 0x22 ∷ 0x00 ∷ 0x03 ∷ 0xe8 ∷ 0x00 ∷ [])

abbrev numbered : List ℕ
numbered = holding 2 80 (0x49 ∷ 0x82 ∷ 0x00 ∷ 0x00 ∷ 0x0a ∷ 0x41 ∷ 0x20 ∷ 0x23 ∷ 0x11 ∷ 0x20 ∷ [])

abbrev excepted : List ℕ
excepted = holding 2 80 (0x49 ∷ 0x82 ∷ 0x00 ∷ 0x00 ∷ 0x0a ∷ 0x41 ∷ 0x20 ∷ 0x02 ∷ 0x31 ∷ 0x12 ∷ [])

-- identity parts in the same way: group 500; the exception 700
abbrev grouped_users : List ℕ
grouped_users = holding 1 88 (0x49 ∷ 0x82 ∷ 0x00 ∷ 0x00 ∷ 0x0a ∷ 0x21 ∷ 0x22 ∷ 0x00 ∷ 0x03 ∷ 0xe8 ∷ 0x00 ∷ [])

abbrev excepted_users : List ℕ
excepted_users = holding 1 88 (0x49 ∷ 0x82 ∷ 0x00 ∷ 0x00 ∷ 0x0a ∷ 0x21 ∷ 0x20 ∷ 0x02 ∷ 0x00 ∷ 0x05 ∷ 0x78 ∷ [])

-- an identity part and a number part without any list
abbrev bare : List ℕ
bare = holding 1 63 (0x49 ∷ 0x82 ∷ 0x00 ∷ 0x00 ∷ 0x0a ∷ 0x21 ∷ 0x40 ∷ 0x00 ∷ [])

abbrev bare_numbers : List ℕ
bare_numbers = holding 2 63 (0x49 ∷ 0x82 ∷ 0x00 ∷ 0x00 ∷ 0x0a ∷ 0x41 ∷ 0x40 ∷ 0x00 ∷ [])

-- the number part as a replacement with delivery and acknowledgement: 146 bits, one bit less than the INTERROGATE ACK
abbrev external : List ℕ
external =
    0x48 ∷ 0xe2 ∷ 0x00 ∷ 0x00 ∷ 0x0a ∷ 0xd2 ∷ 0x04 ∷ 0x00 ∷ 0x07 ∷ 0xd2 ∷ 0x00 ∷ 0x00 ∷ 0x04 ∷ 0x43 ∷ 0x11 ∷ 0x20 ∷ 0x80 ∷ 0x87 ∷ 0x00 ∷ []

numbers-back : (reload_is DefineExternal full (part_of5 2) (asked 1 1 1) (lent 19) ≡ Ok (record { 0 = 146 }))
    × (reload_out DefineExternal full (part_of5 2) (asked 1 1 1) (replicate 20 255) ≡ external ++ (255 ∷ []))
unfolding computed
numbers-back = (refl, refl)

-- the groups of one part, and two empty lists of the other
groups-back : (reload_out Define grouped (part_of5 2) (asked 0 0 0) (lent 11)
    ≡ 0x48 ∷ 0xa2 ∷ 0x00 ∷ 0x00 ∷ 0x0a ∷ 0x02 ∷ 0x44 ∷ 0x00 ∷ 0x07 ∷ 0xd0 ∷ 0x00 ∷ [])
    × (reload_out DefineExternal grouped_users (part_of5 1) (asked 0 0 0) (lent 11)
    ≡ 0x48 ∷ 0xe2 ∷ 0x00 ∷ 0x00 ∷ 0x0a ∷ 0x02 ∷ 0x44 ∷ 0x00 ∷ 0x07 ∷ 0xd0 ∷ 0x00 ∷ [])
unfolding computed
groups-back = (refl, refl)

-- the removal of a part without lists
removed : (reload_is Define bare (part_of5 1) (asked 2 1 1) (lent 7) ≡ Ok (record { 0 = 50 }))
    × (reload_out Define bare (part_of5 1) (asked 2 1 1) (lent 7) ≡ 0x48 ∷ 0xa2 ∷ 0x00 ∷ 0x00 ∷ 0x0a ∷ 0xe2 ∷ 0x80 ∷ [])
    × (reload_is DefineExternal bare_numbers (part_of5 2) (asked 2 1 1) (lent 7) ≡ Ok (record { 0 = 50 }))
    × (reload_out DefineExternal bare_numbers (part_of5 2) (asked 2 1 1) (lent 7) ≡ 0x48 ∷ 0xe2 ∷ 0x00 ∷ 0x00 ∷ 0x0a ∷ 0xe2 ∷ 0x80 ∷ [])
unfolding computed
removed = (refl, refl, refl, refl)

-- ---- 12: a list that is not empty has no place: any under removal, those of the other part under each definition type

abbrev refusal : Target → List ℕ → Key → Definition → ℕ → Refusal
refusal t b k d room = reloaded_refusal (reload_is t b k d (lent room))

lost : (refusal Define bytes_a (part_of5 1) (asked 2 0 0) 20 ≡ plain 12) × (refusal Define grouped (part_of5 2) (asked 2 0 0) 20 ≡ plain 12)
    × (refusal Define numbered (part_of5 2) (asked 0 0 0) 20 ≡ plain 12) × (refusal Define numbered (part_of5 2) (asked 1 0 0) 20 ≡ plain 12)
    × (refusal Define numbered (part_of5 2) (asked 2 0 0) 20 ≡ plain 12) × (refusal Define excepted (part_of5 2) (asked 0 0 0) 20 ≡ plain 12)
unfolding computed
lost = (refl, refl, refl, refl, refl, refl)

lost-external : (refusal DefineExternal grouped (part_of5 2) (asked 2 0 0) 20 ≡ plain 12)
    × (refusal DefineExternal numbered (part_of5 2) (asked 2 0 0) 20 ≡ plain 12)
    × (refusal DefineExternal excepted (part_of5 2) (asked 2 0 0) 20 ≡ plain 12)
    × (refusal DefineExternal bytes_a (part_of5 1) (asked 0 0 0) 20 ≡ plain 12)
    × (refusal DefineExternal bytes_a (part_of5 1) (asked 1 0 0) 20 ≡ plain 12)
    × (refusal DefineExternal excepted_users (part_of5 1) (asked 0 0 0) 20 ≡ plain 12)
unfolding computed
lost-external = (refl, refl, refl, refl, refl, refl)

-- ---- the order of refusals: 9, 7, 11, 12, 8

-- an archive with a bit of the PDU type of its first body flipped
abbrev damaged : List ℕ → List ℕ
damaged b = take 16 b ++ (0x48 ∷ drop 17 b)

in_order : (refusal Define (damaged bytes_a) (part_of5 3) (asked 2 0 0) 0 ≡ plain 9)
    × (refusal Define (damaged bytes_a) (part_of5 2) (asked 3 0 0) 0 ≡ plain 9)
    × (refusal Define (damaged bytes_a) (part_of5 2) (asked 2 0 0) 0 ≡ of_body 0 (Some 6)) × (refusal Define [] (part_of5 2) (asked 2 0 0) 0 ≡ plain 7)
    × (refusal Define bytes_a (part_of5 2) (asked 2 0 0) 0 ≡ plain 11) × (refusal Define bytes_a (part_of5 1) (asked 2 0 0) 0 ≡ plain 12)
    × (refusal Define bytes_a (part_of5 1) (asked 1 0 0) 17 ≡ plain 8) × (refusal Define bytes_a (part_of5 1) (asked 1 0 0) 18 ≡ plain 0)
unfolding computed
in_order = (refl, refl, refl, refl, refl, refl, refl, refl)

in_order-external : (refusal DefineExternal (damaged full) (part_of5 3) (asked 2 0 0) 0 ≡ plain 9)
    × (refusal DefineExternal (damaged full) (part_of5 1) (asked 1 0 1) 0 ≡ plain 9)
    × (refusal DefineExternal (damaged full) (part_of5 1) (asked 2 0 0) 0 ≡ of_body 0 (Some 6))
    × (refusal DefineExternal [] (part_of5 1) (asked 2 0 0) 0 ≡ plain 7) × (refusal DefineExternal full (part_of5 1) (asked 2 0 0) 0 ≡ plain 11)
    × (refusal DefineExternal full (part_of5 2) (asked 2 0 0) 0 ≡ plain 12) × (refusal DefineExternal full (part_of5 2) (asked 1 0 0) 18 ≡ plain 8)
    × (refusal DefineExternal full (part_of5 2) (asked 1 0 0) 19 ≡ plain 0)
unfolding computed
in_order-external = (refl, refl, refl, refl, refl, refl, refl, refl)
