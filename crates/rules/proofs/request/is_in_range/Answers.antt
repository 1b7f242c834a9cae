-- Each test is made as long as those before it hold. Assumes nothing.
use mathlib.Core.Path.{◌≡◌, refl, ap, ◌∙◌}
use mathlib.Core.Bool.{◌&&◌}
use Prim.Native.Nat.{ℕ}
use lib.ListN.{take, drop}
use Rattle.bits.specs.Lists.{every}
use Rattle.rules.specs.Inner.{is_in_range}
use Rattle.rules.specs.Request.{is_user, is_service, is_destination, is_group, is_digit, is_unused, digits_used}
use Rattle.rules.proofs.Chains.{goes_on, ends}
use Rattle.rules.proofs.request.is_in_range.Goals.{then-is_user, else-is_user, then-is_service, else-is_service}
use Rattle.rules.proofs.request.is_in_range.Goals.{then-is_destination, else-is_destination, then-is_group, else-is_group}
use Rattle.rules.proofs.request.is_in_range.Goals as goal

pub returns-then-used_are_digits : goal.returns-then-used_are_digits
unfolding is_in_range
returns-then-used_are_digits c =
    let r = c.args.request in
    let served : c.if-is_user.value ≡ is_user r.user && is_service r.service = elim c.if-is_user.branch [
      | then-is_user w ↦ goes_on c.is_user.ensures w.if-is_user.true w.is_service.ensures w.value-is
      | else-is_user w ↦ ends _ c.is_user.ensures w.if-is_user.false w.value-is
    ] in
    let called : c.if-is_service.value ≡ is_user r.user && is_service r.service && is_destination r.destination = elim c.if-is_service.branch [
      | then-is_service w ↦ goes_on served w.if-is_service.true w.is_destination.ensures w.value-is
      | else-is_service w ↦ ends _ served w.if-is_service.false w.value-is
    ] in
    let grouped : c.if-is_destination.value ≡ is_user r.user && is_service r.service && is_destination r.destination && is_group r.group =
    elim c.if-is_destination.branch [
      | then-is_destination w ↦ goes_on called w.if-is_destination.true w.is_group.ensures w.value-is
      | else-is_destination w ↦ ends _ called w.if-is_destination.false w.value-is
    ] in
    let used = ap (λ (n : ℕ). every is_digit (take n r.digits)) c.digits_used-length.ensures in
    let unused = ap (λ (n : ℕ). every is_unused (drop n r.digits)) c.digits_used-length.ensures in
    let dialled : c.if-is_group.value
    ≡ is_user r.user && is_service r.service && is_destination r.destination && is_group r.group
    && every is_digit (take (digits_used r.destination) r.digits) = elim c.if-is_group.branch [
      | then-is_group w ↦ goes_on grouped w.if-is_group.true (w.used_are_digits.ensures ∙ used) w.value-is
      | else-is_group w ↦ ends _ grouped w.if-is_group.false w.value-is
    ] in
    goes_on dialled c.if-used_are_digits.true (c.unused_are_zero.ensures ∙ unused) refl

pub returns-else-used_are_digits : goal.returns-else-used_are_digits
unfolding is_in_range
returns-else-used_are_digits c =
    let r = c.args.request in
    let served : c.if-is_user.value ≡ is_user r.user && is_service r.service = elim c.if-is_user.branch [
      | then-is_user w ↦ goes_on c.is_user.ensures w.if-is_user.true w.is_service.ensures w.value-is
      | else-is_user w ↦ ends _ c.is_user.ensures w.if-is_user.false w.value-is
    ] in
    let called : c.if-is_service.value ≡ is_user r.user && is_service r.service && is_destination r.destination = elim c.if-is_service.branch [
      | then-is_service w ↦ goes_on served w.if-is_service.true w.is_destination.ensures w.value-is
      | else-is_service w ↦ ends _ served w.if-is_service.false w.value-is
    ] in
    let grouped : c.if-is_destination.value ≡ is_user r.user && is_service r.service && is_destination r.destination && is_group r.group =
    elim c.if-is_destination.branch [
      | then-is_destination w ↦ goes_on called w.if-is_destination.true w.is_group.ensures w.value-is
      | else-is_destination w ↦ ends _ called w.if-is_destination.false w.value-is
    ] in
    let used = ap (λ (n : ℕ). every is_digit (take n r.digits)) c.digits_used-length.ensures in
    let dialled : c.if-is_group.value
    ≡ is_user r.user && is_service r.service && is_destination r.destination && is_group r.group
    && every is_digit (take (digits_used r.destination) r.digits) = elim c.if-is_group.branch [
      | then-is_group w ↦ goes_on grouped w.if-is_group.true (w.used_are_digits.ensures ∙ used) w.value-is
      | else-is_group w ↦ ends _ grouped w.if-is_group.false w.value-is
    ] in
    ends _ dialled c.if-used_are_digits.false refl
