-- The tests by which the calls know an archive, a body, a user and part say what document 01 says. Assumes nothing.
use mathlib.Core.Path.{◌≡◌, refl, sym, ◌∙◌, subst}
use mathlib.Core.Bool.{true}
use Prim.Native.Nat.{ℕ}
use Rattle.bits.proofs.Tests.{differ, false-unless}
use Rattle.reader.specs.Read.{found_in, read_is}
use Rattle.judging.specs.Judge.{may_hold}
use Rattle.archive.specs.Keeping.{entry_for}
use Rattle.archive.proofs.Model.Bodies as bodies
use Rattle.archive.proofs.Bytes.AsWritten as writing
use Rattle.archive.proofs.Calls.Limits.{counted}
use Rattle.archive.proofs.Calls.Capture.{offered-agrees}
use Rattle.promises.specs.Archive.{Promise}
use Rattle.promises.proofs.Archive.Agreeing.{legal, agrees-says, agrees-is}
use Rattle.promises.proofs.Archive.Forming.{formed-says, formed-is}
use Rattle.promises.proofs.Archive.Laying.{archive-says, archive-read, archive-is, archive-bytes}
use Rattle.promises.proofs.Archive.Finding.{ranged-says, ranged-is, found, not_found}
pub mod Agreeing
pub mod Forming
pub mod Laying
pub mod Finding
pub mod Indexing

pub promise : Promise
promise = record {
  legal = legal;
  agrees = λ home h. (agrees-says home h, agrees-is home h);
  well-formed = λ a. (formed-says a, formed-is a);
  is-archive = λ b. (archive-says b, archive-is b);
  one-reading = archive-read;
  archive-bytes = archive-bytes;
  one-archive = λ a a' w w'. writing.one-reading a a' (formed-is a w) (formed-is a' w');
  counts = counted;
  in-range = λ k. (ranged-says k, ranged-is k);
  found = λ b ok k r. found k b ok r;
  not_found = λ b ok k r. not_found k b ok r;
  no-entry = λ s n a. (
    λ m home e l. false-unless _ (λ x.
        differ (sym (subst (λ (k : ℕ). may_hold (found_in (read_is s k)) ≡ true) l (bodies.agrees-says home (record { entry = e; body = s }) x).may) ∙ m)),
    λ none. false-unless _ (λ m. let e = entry_for 0 s n 0 in
        differ (sym (bodies.agrees-is 0 (record { entry = e; body = s }) (offered-agrees 0 s n 0 a m)) ∙ none 0 e refl)),
  );
}
