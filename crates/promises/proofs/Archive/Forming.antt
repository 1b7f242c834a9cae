-- Entries rise by network, then SSI, then part, and an archive keeps the rules: as tests and as statements. Assumes nothing.
use mathlib.Core.Path.{◌≡◌, refl}
use mathlib.Core.Logic.{⊎_elim}
use mathlib.Core.Bool.{Bool, true, false}
use mathlib.Core.List.{List, [], ◌∷◌}
use Prim.Native.Nat.{ℕ, ◌≤◌, ◌<◌}
use native.Mathlib.Omega.{arith}
use lib.ListN.{length, length-append}
use lib.Dec.{ltb}
use borrow.Author.Tests.{ltb-true, ltb-false}
use Rattle.bits.specs.Lists.{Each}
use Rattle.grammar.specs.declared.record.Record.{Record}
use Rattle.archive.specs.Model.{Held, Archive, rank_of, rank, length_of, bytes_of}
use Rattle.archive.specs.Filing.{body_agrees, keeps_rules, well_formed}
use Rattle.archive.specs.Inner.{KeyFits}
use Rattle.archive.specs.declared.contents.Key.{Key}
use Rattle.archive.proofs.Model.Bodies as bodies
use Rattle.archive.proofs.Model.Rules.{AllFit, no_more, and-fit, kept, is-kept, formed, is-formed}
use Rattle.archive.proofs.Model.Keys.{by-network, by-ssi, by_part}
use Rattle.archive.proofs.Bytes.AsWritten as writing
use Rattle.promises.specs.Archive as archive
use Rattle.promises.specs.Archive.{Before, Rising, Agrees, WellFormed}
use Rattle.promises.proofs.Archive.Agreeing.{agrees-says, agrees-is}

-- ---- entries that rise

module _ (e f : Key) (he : KeyFits e) (hf : KeyFits f) where
  pub before : rank_of e < rank_of f → Before e f
  before l = go (ltb e.network f.network) refl (ltb e.ssi f.ssi) refl
    where
      go : (p : Bool) → ltb e.network f.network ≡ p → (q : Bool) → ltb e.ssi f.ssi ≡ q → Before e f
      go true x q y = archive.by-network (ltb-true _ _ x)
      go false x true y =
          let n : f.network ≤ e.network = ltb-false _ _ x in
          let s : e.ssi < f.ssi = ltb-true _ _ y in
          archive.by-ssi (omega (arith, l, he.ssi, he.part, hf.ssi, hf.part)) s
      go false x false y =
          let n : f.network ≤ e.network = ltb-false _ _ x in
          let s : f.ssi ≤ e.ssi = ltb-false _ _ y in
          let same : e.network ≡ f.network = omega (arith, l, he.ssi, he.part, hf.ssi, hf.part) in
          archive.by_part same (omega (arith, l, he.part, hf.part)) (omega (arith, l, he.part, hf.part))

  pub above : Before e f → rank_of e < rank_of f
  above (archive.by-network n) = by-network e f he n
  above (archive.by-ssi n s) = by-ssi e f he n s
  above (archive.by_part n s p) = by_part e f n s p

-- every entry has a day
abbrev pub Dated : List Held → Type 0
Dated hs = Each (λ h. h.entry.day < 65536) hs

module _ (home : ℕ) (small : home < 16777216) where
  abbrev Bodies : List Held → Type 0
  Bodies hs = Each (λ h. (r : Record) × Agrees home h r) hs

  key_fits : (h : Held) → body_agrees home h ≡ true → KeyFits h.entry.key
  key_fits h a = bodies.key_fits home h small (bodies.agrees-says home h a)

  rises : (last : ℕ) (hs : List Held) → keeps_rules home last hs ≡ true → Rising hs
  rises last [] k = tt
  rises last (h ∷ []) k = tt
  rises last (h ∷ g ∷ hs) k =
      let u = kept home last h (g ∷ hs) k in
      let v = kept home (rank h) g hs u.others in
      (before h.entry.key g.entry.key (key_fits h u.agrees) (key_fits g v.agrees) v.rises, rises (rank h) (g ∷ hs) u.others)

  each-agrees : (last : ℕ) (hs : List Held) → keeps_rules home last hs ≡ true → Bodies hs
  each-agrees last [] k = tt
  each-agrees last (h ∷ hs) k =
      let u = kept home last h hs k in
      (agrees-says home h u.agrees, each-agrees (rank h) hs u.others)

  each-dated : (last : ℕ) (hs : List Held) → keeps_rules home last hs ≡ true → Dated hs
  each-dated last [] k = tt
  each-dated last (h ∷ hs) k = let u = kept home last h hs k in (u.day, each-dated (rank h) hs u.others)

  abbrev Above : ℕ → List Held → Type 0
  Above last [] = Unit
  Above last (h ∷ hs) = last < rank h

  keeps : (last : ℕ) (hs : List Held) → Rising hs → Dated hs → Bodies hs → Above last hs → keeps_rules home last hs ≡ true
  unfolding keeps_rules
  keeps last [] r d b a = refl
  keeps last (h ∷ []) r d b a = is-kept home last h [] (record { rises = a; day = d.0; agrees = agrees-is home h b.0; others = refl })
  keeps last (h ∷ g ∷ hs) r d b a =
      let x = agrees-is home h b.0 in
      let y = agrees-is home g b.1.0 in
      let l = above h.entry.key g.entry.key (key_fits h x) (key_fits g y) r.0 in
      is-kept home last h (g ∷ hs) (record { rises = a; day = d.0; agrees = x; others = keeps (rank h) (g ∷ hs) r.1 d.1 b.1 l })

  -- a part is 1 or 2, so every key is above 0
  above_zero : (hs : List Held) → Bodies hs → Above 0 hs
  above_zero [] b = tt
  above_zero (h ∷ hs) b =
      let g = b.0.1 in
      ⊎_elim (λ e. omega (arith, g.part, e)) (λ e. omega (arith, g.part, e)) g.accepting.result

  all-agree : (hs : List Held) → Dated hs → Bodies hs → AllFit hs
  all-agree [] d b = no_more
  all-agree (h ∷ hs) d b =
      and-fit (bodies.fits home h small (bodies.agrees-says home h (agrees-is home h b.0)) d.0) (all-agree hs d.1 b.1)

-- ---- the whole

pub length-bytes : (a : Archive) → AllFit a.held → length (bytes_of a) ≡ length_of a
length-bytes a f =
    simp length-append
    (omega (arith, writing.length-header a.home (length a.held), writing.length-contents a.held, writing.length-bodies a.held f))

pub formed-says : (a : Archive) → well_formed a ≡ true → WellFormed a
formed-says a w =
    let f = formed a w in
    record {
      home = f.home;
      few = f.few;
      rising = rises a.home f.home 0 a.held f.rules;
      days = each-dated a.home f.home 0 a.held f.rules;
      bodies = each-agrees a.home f.home 0 a.held f.rules;
      small = omega (arith, writing.length-written a w, f.small);
    }

pub formed-is : (a : Archive) → WellFormed a → well_formed a ≡ true
formed-is a f = is-formed a (record {
  home = f.home;
  few = f.few;
  small = omega (arith, length-bytes a (all-agree a.home f.home a.held f.days f.bodies), f.small);
  rules = keeps a.home f.home 0 a.held f.rising f.days f.bodies (above_zero a.home f.home a.held f.bodies);
})
