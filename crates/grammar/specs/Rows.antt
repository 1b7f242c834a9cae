-- The tables row by row: what the type of a PDU says of its users, services, lists and figures. Nothing here is to be believed: `in_rows`
-- (proofs/Rows) says that each table is its row.
use Rattle.std.specs.Prelude.{Bool, true, false, ℕ, ◌+◌, ◌*◌, ◌/◌, ◌%◌, ◌^◌, Option, Some, None}
use Rattle.bits.specs.Bits.{pick}
use Rattle.codec.specs.Codec.{Codec}
use Rattle.codec.specs.Parts.{seq}
use Rattle.grammar.specs.SiteSheet.{defined_part}
use Rattle.grammar.specs.Grammar.{identities, no_identities, services, no_services, part_of, definition, user_definition, definition_result}
use Rattle.grammar.specs.Grammar.{distribution_result, interrogation_type, interrogation_result, rejection_cause, no_figures, Rest}
use Rattle.grammar.specs.Figures.{of_interrogation, of_definition, of_outcome}
use Rattle.grammar.specs.Zero.{zero_figures}
use Rattle.grammar.specs.declared.site.ListKind.TheVariants as of
use Rattle.grammar.specs.declared.site.PduType.{PduType}
use Rattle.grammar.specs.declared.site.PduType.TheVariants.{Define, DefineAck, DefineExternal, DefineUser, DefineUserAck, DefineExternalUser}
use Rattle.grammar.specs.declared.site.PduType.TheVariants.{Interrogate, InterrogateAck, CallBarred}
use Rattle.grammar.specs.declared.figures.Form.{Form}
use Rattle.grammar.specs.declared.record.Figures.{Figures}
use Rattle.grammar.specs.declared.record.Identities.{Identities}
use Rattle.grammar.specs.declared.record.Services.{Services}

-- whether it has affected users, whether it has services, and how many bits of figures
abbrev pub form_with : Bool → Bool → ℕ → Form
form_with users services width = record { users = users; services = services; width = width }

unfoldable pub form_of : Option PduType → Form
form_of (Some Define) = form_with true true 4
form_of (Some DefineAck) = form_with true false 3
form_of (Some DefineExternal) = form_with true true 4
form_of (Some DefineUser) = form_with false true 3
form_of (Some DefineUserAck) = form_with false false 3
form_of (Some DefineExternalUser) = form_with false true 3
form_of (Some Interrogate) = form_with true false 2
form_of (Some InterrogateAck) = form_with true true 5
form_of (Some CallBarred) = form_with false false 2
form_of None = form_with false false 0

abbrev pub width_of : Option PduType → ℕ
width_of t = (form_of t).width

-- the part whose lists are carried, 0 for none
unfoldable pub part_in : Option PduType → Figures → ℕ
part_in (Some Define) f = defined_part 1 f.definition
part_in (Some DefineAck) f = 0
part_in (Some DefineExternal) f = defined_part 2 f.definition
part_in (Some DefineUser) f = defined_part 1 f.definition
part_in (Some DefineUserAck) f = 0
part_in (Some DefineExternalUser) f = defined_part 1 f.definition
part_in (Some Interrogate) f = 0
part_in (Some InterrogateAck) f = f.result
part_in (Some CallBarred) f = 0
part_in None f = 0

abbrev pub figures_of : Option PduType → Codec Figures
figures_of (Some Define) = definition
figures_of (Some DefineAck) = definition_result
figures_of (Some DefineExternal) = definition
figures_of (Some DefineUser) = user_definition
figures_of (Some DefineUserAck) = distribution_result
figures_of (Some DefineExternalUser) = user_definition
figures_of (Some Interrogate) = interrogation_type
figures_of (Some InterrogateAck) = interrogation_result
figures_of (Some CallBarred) = rejection_cause
figures_of None = no_figures

-- affected users, and services, where the PDU has them
abbrev pub users_if : Bool → Codec Identities
users_if carried = pick carried (identities of.Users) no_identities

abbrev pub services_if : Bool → Codec Services
services_if carried = pick carried services no_services

abbrev pub users_of : Option PduType → Codec Identities
users_of t = users_if (form_of t).users

abbrev pub services_of : Option PduType → Codec Services
services_of t = services_if (form_of t).services

-- a PDU's row
abbrev pub rowed : Option PduType → Codec Rest
rowed t = seq (users_of t) (λ u. seq (figures_of t) (λ f. seq (services_of t) (λ s. part_of (part_in t f))))

-- ---- the figures as a run of bits

-- delivery, acknowledgement and definition type, or the last two, in a window of 57 bits
abbrev pub definition_in : ℕ → Figures
definition_in w = of_definition (w / 2 ^ 56) (w / 2 ^ 55 % 2 ^ 1) (w / 2 ^ 53 % 2 ^ 2)

abbrev pub user_definition_in : ℕ → Figures
user_definition_in w = of_definition 0 (w / 2 ^ 56) (w / 2 ^ 54 % 2 ^ 2)

-- the figures in the window that begins with them
unfoldable pub figures_in : Option PduType → ℕ → Figures
figures_in (Some Define) w = definition_in w
figures_in (Some DefineAck) w = of_outcome (w / 2 ^ 54) 0 0
figures_in (Some DefineExternal) w = definition_in w
figures_in (Some DefineUser) w = user_definition_in w
figures_in (Some DefineUserAck) w = of_outcome 0 (w / 2 ^ 54) 0
figures_in (Some DefineExternalUser) w = user_definition_in w
figures_in (Some Interrogate) w = of_interrogation (w / 2 ^ 55) 0 0
figures_in (Some InterrogateAck) w = of_interrogation 0 (w / 2 ^ 54) (w / 2 ^ 52 % 2 ^ 2)
figures_in (Some CallBarred) w = of_outcome 0 0 (w / 2 ^ 55)
figures_in None w = zero_figures

-- the bits of the figures as one number
abbrev pub definition_run : ℕ → Figures → ℕ
definition_run before f = (before * 2 ^ 1 + f.acknowledgement % 2 ^ 1) * 2 ^ 2 + f.definition % 2 ^ 2

unfoldable pub run_of : Option PduType → Figures → ℕ
run_of (Some Define) f = definition_run f.delivery f
run_of (Some DefineAck) f = f.defined
run_of (Some DefineExternal) f = definition_run f.delivery f
run_of (Some DefineUser) f = definition_run 0 f
run_of (Some DefineUserAck) f = f.distributed
run_of (Some DefineExternalUser) f = definition_run 0 f
run_of (Some Interrogate) f = f.asked
run_of (Some InterrogateAck) f = f.result * 2 ^ 2 + f.status % 2 ^ 2
run_of (Some CallBarred) f = f.cause
run_of None f = 0

-- ---- how long what follows the PDU type can be

unfoldable pub longest : Option PduType → ℕ
longest (Some Define) = 1612
longest (Some DefineAck) = 399
longest (Some DefineExternal) = 2444
longest (Some DefineUser) = 1215
longest (Some DefineUserAck) = 3
longest (Some DefineExternalUser) = 1215
longest (Some Interrogate) = 398
longest (Some InterrogateAck) = 2445
longest (Some CallBarred) = 2
longest None = 0
