-- The longest PDU of each type: so many bits, and legal. That none is longer is `pdu-length` (proofs/Sizes).
use Rattle.std.specs.Prelude.{◌≡◌, refl, true, ℕ, length, replicate}
use Rattle.grammar.specs.Grammar.{pdu, grammar}
use Rattle.grammar.specs.Samples.{far, list, digits, numbers, services, identity_lists, number_lists}
use Rattle.grammar.specs.Samples as a
use Rattle.grammar.specs.declared.record.Identities.{Identities}
use Rattle.grammar.specs.declared.record.Numbers.{Numbers}
use Rattle.grammar.specs.declared.record.Services.{Services}
use Rattle.grammar.specs.declared.record.Record.{Record}

-- eight identities with extensions, eight numbers of 24 digits, seven services
abbrev eight : Identities
eight = list 8 (replicate 8 (far 16777215 16777215))

abbrev eight_numbers : Numbers
eight_numbers = numbers 8 (replicate 8 (digits (replicate 24 12)))

abbrev seven : Services
seven = services (replicate 7 3)

-- legal, and so many bits
abbrev Long : Record → ℕ → Type 0
Long r n = (pdu.clean r ≡ true) × (pdu.fault r ≡ 0) × (length (pdu.print r) ≡ n)

define-1623 : Long (a.define eight 1 1 1 seven (identity_lists eight eight eight)) 1623
unfolding grammar
define-1623 = (refl, refl, refl)

define_ack-410 : Long (a.define_ack eight 7) 410
unfolding grammar
define_ack-410 = (refl, refl, refl)

define_external-2455 : Long (a.define_external eight 1 1 1 seven (number_lists eight eight_numbers eight_numbers)) 2455
unfolding grammar
define_external-2455 = (refl, refl, refl)

define_user-1226 : Long (a.define_user 1 1 seven (identity_lists eight eight eight)) 1226
unfolding grammar
define_user-1226 = (refl, refl, refl)

define_user_ack-14 : Long (a.define_user_ack 7) 14
unfolding grammar
define_user_ack-14 = (refl, refl, refl)

define_external_user-1226 : Long (a.define_external_user 1 1 seven (identity_lists eight eight eight)) 1226
unfolding grammar
define_external_user-1226 = (refl, refl, refl)

asking-409 : Long (a.interrogate eight 3) 409
unfolding grammar
asking-409 = (refl, refl, refl)

ack-2456 : Long (a.interrogate_ack eight 2 3 seven (number_lists eight eight_numbers eight_numbers)) 2456
unfolding grammar
ack-2456 = (refl, refl, refl)

call_barred-13 : Long (a.call_barred 2) 13
unfolding grammar
call_barred-13 = (refl, refl, refl)
