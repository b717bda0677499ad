use Rattle.std.proofs.Common.{◌≡◌, ◌++◌, length, take, drop, ◌∙◌, sym, ap, arith}
use Rattle.std.proofs.Math.Seq.{take-append_seam}
use Rattle.mx_log.proofs.FileLemmas.{damaged_at, held_whole}
use Rattle.mx_log.proofs.file.holds_damage.Goals as goal

pub returns-clause-damaged : goal.returns-clause-damaged
returns-clause-damaged g c clean =
    let buf = c.read_at.new.buf in
    let items = c.in_ok-bytes.bytes.items in
    let len = c.in_ok-length.ensures.len (c.read_at.ensures.clean clean) in
    let read = c.in_ok-read_at.ensures.read clean in
    let same = c.read_at.auto.buf in
    let room : length buf ≡ c.in_ok-bytes.bytes.len = same ∙ c.deref_mut.ensures.len in
    let whole : length buf ≡ length (g.D.Disk.seen c.len.new.self) =
    room ∙ c.in_ok-bytes.ensures.len ∙ len ∙ ap length (sym c.len.ensures.seen) in
    let held = held_whole (g.D.Disk.seen c.len.new.self) buf whole (λ some. read (omega arith)) in
    let front = ap (λ n. take n (buf ++ drop (length buf) items)) (sym room) ∙ take-append_seam buf (drop (length buf) items) in
    damaged_at _ _ _ (c.deref.ensures.value ∙ front ∙ held ∙ c.len.ensures.seen) c.is_damaged.ensures
