-- Each of the thirteen calls for C has one possible outcome: the number it returns, the buffer, and the numbers behind its pointers.
use Rattle.boc.proofs as boc
use Rattle.promises.specs.Determined.{Determined, by_equations}

pub boc_read_determined : Determined boc.boc_read.Kinds.ps boc.boc_read.Kinds.r boc.boc_read.Reads.Learnt
boc_read_determined = by_equations (λ κs a x v p. (p.0, λ i. (tt, (tt, (p.1.0 i, (p.1.1 i, tt))))))

pub boc_write_determined : Determined boc.boc_write.Kinds.ps boc.boc_write.Kinds.r boc.boc_write.Reads.Learnt
boc_write_determined = by_equations (λ κs a x v p. (p.0, λ i. (tt, (p.1.0 i, (p.1.1 i, tt)))))

pub boc_empty_determined : Determined boc.boc_empty.Kinds.ps boc.boc_empty.Kinds.r boc.boc_empty.Reads.Learnt
boc_empty_determined = by_equations (λ κs a x v p. (p.0, λ i. (tt, (p.1.0 i, (p.1.1 i, tt)))))

pub boc_capture_determined : Determined boc.boc_capture.Kinds.ps boc.boc_capture.Kinds.r boc.boc_capture.Reads.Learnt
boc_capture_determined = by_equations (λ κs a x v p. (p.0, λ i. (tt, (tt, (tt, (tt, (p.1.0 i, (p.1.1.0 i, (p.1.1.1.0 i, (p.1.1.1.1 i, tt))))))))))

pub boc_entry_determined : Determined boc.boc_entry.Kinds.ps boc.boc_entry.Kinds.r boc.boc_entry.Reads.Learnt
boc_entry_determined = by_equations (λ κs a x v p. (
  p.0,
  λ i. (
    tt,
    (
      tt,
      (
        p.1.0 i,
        (
          p.1.1.0 i,
          (
            p.1.1.1.0 i,
            (p.1.1.1.1.0 i, (p.1.1.1.1.1 i, tt)),
          ),
        ),
      ),
    ),
  ),
))

pub boc_restore_determined : Determined boc.boc_restore.Kinds.ps boc.boc_restore.Kinds.r boc.boc_restore.Reads.Learnt
boc_restore_determined = by_equations (λ κs a x v p. (
  p.0,
  λ i. (
    tt,
    (
      tt,
      (
        tt,
        (
          tt,
          (
            p.1.0 i,
            (
              p.1.1.0 i,
              (
                p.1.1.1.0 i,
                (p.1.1.1.1.0 i, (p.1.1.1.1.1 i, tt)),
              ),
            ),
          ),
        ),
      ),
    ),
  ),
))

pub boc_reload_determined : Determined boc.boc_reload.Kinds.ps boc.boc_reload.Kinds.r boc.boc_reload.Reads.Learnt
boc_reload_determined = by_equations (λ κs a x v p. (p.0, λ i. (tt, (tt, (tt, (tt, (tt, (tt, (tt, (p.1.0 i, (p.1.1.0 i, (p.1.1.1.0 i, (p.1.1.1.1 i, tt)))))))))))))

pub boc_reload_external_determined : Determined boc.boc_reload_external.Kinds.ps boc.boc_reload_external.Kinds.r boc.boc_reload_external.Reads.Learnt
boc_reload_external_determined = by_equations (λ κs a x v p. (p.0, λ i. (tt, (tt, (tt, (tt, (tt, (tt, (p.1.0 i, (p.1.1.0 i, (p.1.1.1.0 i, (p.1.1.1.1 i, tt))))))))))))

pub boc_decide_determined : Determined boc.boc_decide.Kinds.ps boc.boc_decide.Kinds.r boc.boc_decide.Reads.Learnt
boc_decide_determined = by_equations (λ κs a x v p. (p.0, λ i. (tt, (tt, (p.1.0 i, (p.1.1.0 i, (p.1.1.1 i, tt)))))))

pub boc_decide_in_place_determined : Determined boc.boc_decide_in_place.Kinds.ps boc.boc_decide_in_place.Kinds.r boc.boc_decide_in_place.Reads.Learnt
boc_decide_in_place_determined = by_equations (λ κs a x v p. (p.0, λ i. (tt, (tt, (p.1.0 i, (p.1.1.0 i, (p.1.1.1 i, tt)))))))

pub boc_contents_determined : Determined boc.boc_contents.Kinds.ps boc.boc_contents.Kinds.r boc.boc_contents.Reads.Learnt
boc_contents_determined = by_equations (λ κs a x v p. (p.0, λ i. (tt, (p.1.0 i, (p.1.1.0 i, (p.1.1.1.0 i, (p.1.1.1.1 i, tt)))))))

pub boc_terminal_reset_determined : Determined boc.serial.boc_terminal_reset.Kinds.ps boc.serial.boc_terminal_reset.Kinds.r boc.serial.boc_terminal_reset.Reads.Learnt
boc_terminal_reset_determined = by_equations (λ κs a x v p. (p.0, λ i. (p.1 i, tt)))

pub boc_terminal_line_determined : Determined boc.serial.boc_terminal_line.Kinds.ps boc.serial.boc_terminal_line.Kinds.r boc.serial.boc_terminal_line.Reads.Learnt
boc_terminal_line_determined = by_equations (λ κs a x v p. (p.0, λ i. (tt, (p.1.0 i, (p.1.1.0 i, (p.1.1.1 i, tt))))))
