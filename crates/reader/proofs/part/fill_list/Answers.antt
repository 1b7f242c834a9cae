-- The range type, then as many entries as it says. Assumes nothing.
use mathlib.Core.Path.{◌≡◌, ap}
use mathlib.Core.List.{List, ◌∷◌}
use Prim.Native.Nat.{ℕ, ◌+◌}
use native.Mathlib.Omega.{arith}
use lib.ListN.{length}
use Rattle.std.proofs.Common.{rules}
use Rattle.grammar.proofs.Codes.{entries_of_le}
use Rattle.reader.proofs.Elements.{number_fits}
use Rattle.reader.proofs.Parts.{reads_first, reads-next, read-then, reads-used, fill-used}
use Rattle.reader.proofs.part.fill_list.Goals as goal

pub number_at-code-requires : goal.number_at-code-requires
number_at-code-requires g c = (omega arith, omega arith, reads_first _ _ c.requires.reads)

pub overflow_add-at : goal.overflow_add-at
overflow_add-at g c = omega (arith, number_fits c.args.s.now c.args.c.at 4 (omega arith) c.requires.few (reads_first _ _ c.requires.reads))

pub fill_entries-requires : goal.fill_entries-requires
fill_entries-requires g c =
    let long : length c.unwrap.result.1.now + 1 ≡ length c.args.words.now = search rules in (
      omega (arith, c.entries_of.ensures, entries_of_le c.number_at-code.result),
      record {
        few = c.requires.few;
        room = omega (arith, long, c.requires.room);
        reads = reads-used g.E.Part.part g.E.Part.none 8 c.entries_of.ensures (reads-next _ _ c.requires.reads c.number_at-code.ensures);
      },
    )

pub returns : goal.returns
returns g c =
    let code : ℕ = c.number_at-code.result in
    let f = fill-used g.E.Part.part g.E.Part.none 8 c.entries_of.ensures c.fill_entries.ensures in
    record { value = (code, f.value); read = read-then _ _ c.number_at-code.ensures f.read; same = ap (λ (l : List ℕ). code ∷ l) f.same }
