-- An identity from one window. Assumes nothing.
use native.Mathlib.Omega.{arith}
use Rattle.bits.proofs.Bytes.{length-bits}
use Rattle.words.specs.RecordWords.{identity_words}
use Rattle.grammar.proofs.Windows.{plain_in, wide_in}
use Rattle.reader.proofs.Elements.{plain-read, wide_read, identity-short, identity-long}
use Rattle.reader.proofs.identities.IdentityPart.fill.Goals as goal

pub overflow_add-result : goal.overflow_add-result
overflow_add-result c =
    omega (arith, c.requires.few, length-bits c.args.s.now, identity-long _ _ c.requires.reads c.window-window.ensures c.if-window-eq1.true)

pub returns-then-window-eq1 : goal.returns-then-window-eq1
unfolding identity_words
returns-then-window-eq1 c =
    record {
      value = wide_in c.window-window.result;
      read = record { same = wide_read _ _ c.requires.reads c.window-window.ensures c.if-window-eq1.true };
      same = c.put_three.ensures;
    }

pub overflow_add-result-2 : goal.overflow_add-result-2
overflow_add-result-2 c =
    omega (arith, c.requires.few, length-bits c.args.s.now, identity-short _ _ c.requires.reads)

pub returns : goal.returns
unfolding identity_words
returns c =
    record {
      value = plain_in c.window-window.result;
      read = record { same = plain-read _ _ c.requires.reads c.window-window.ensures (omega (arith, c.if-window-eq1.false)) };
      same = c.put_three-2.ensures;
    }
