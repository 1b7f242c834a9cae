-- The services, and the lists after them. Assumes nothing.
use native.Mathlib.Omega.{arith}
use Rattle.words.specs.RecordWords.{services_words}
use Rattle.reader.proofs.Parts.{reads_first, reads-next, fill-then}
use Rattle.reader.proofs.record.fill_listed.Goals as goal

pub fill_if-after_services-requires : goal.fill_if-after_services-requires
fill_if-after_services-requires c =
    record { few = c.requires.few; room = omega (arith, c.requires.room); reads = reads_first _ _ c.requires.reads }

pub fill_part-requires : goal.fill_part-requires
fill_part-requires c =
    record {
      few = c.requires.few;
      room = omega (arith, c.requires.room);
      reads = reads-next _ _ c.requires.reads c.fill_if-after_services.ensures.read;
    }

pub returns : goal.returns
returns c = fill-then _ _ services_words c.fill_if-after_services.ensures c.fill_part.ensures
