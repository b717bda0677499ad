-- What recovery found is what the log has kept in memory, and its close leaves that in the database file.
use Rattle.std.proofs.Common.{◌≡◌, ◌∙◌, [], IsTrue, ap, ap₂, subst, sym}
use Rattle.sqlite_disk.specs.Disk.{Only}
use Rattle.sqlite_wal.specs.Log.{committed_frames, image, state}
use Rattle.sqlite_wal.specs.PageSize.{bytes_of}
use Rattle.sqlite_wal.specs.Reads.{AreClean}
use Rattle.sqlite_wal.specs.Recovery.{Recovers, Replays, pages_after}
use Rattle.sqlite_wal.specs.Files.{seen_image}
use Rattle.sqlite_wal.proofs.StateLemmas.{open_from}
use Rattle.mx_log.proofs.FoldLemmas.{alone_committed, named_is, only_seen}
use Rattle.mx_log.proofs.folding.fold.Goals as goal

pub returns : goal.returns
returns g c = λ clean.
    let disk = g.D.Disk in
    let made = c.in_ok-log.log in
    let found = c.recover.new.self in
    let last = c.finish.new.self in
    let log : c.into_files.result.log ≡ last.log = ap (λ p. p.0) c.into_files.ensures in
    let db : c.into_files.result.db ≡ last.db = ap (λ p. p.1) c.into_files.ensures in
    let low : AreClean disk last.log last.db = subst (λ l. AreClean disk l last.db) log (subst (λ d. AreClean disk c.into_files.result.log d) db clean) in
    let keeps = c.in_ok-finish.ensures.keeps in
    let was_low : IsTrue (state found).is_clean = keeps.stays.clean low in
    let is_open : IsTrue (state last).is_open = open_from (state last) c.in_ok-finish.ensures.open low in
    let none : committed_frames last ≡ 0 = c.in_ok-finish.ensures.clean c.in_ok-finish.ensures.open ∙ c.in_ok-finish.ensures.empty in
    let size : made.page_size ≡ bytes_of c.in-Some.size = c.in_ok-log.ensures.size in
    let sizes : last.page_size ≡ bytes_of c.in-Some.size = keeps.stays.size ∙ c.in_ok-recover.ensures.size ∙ size in
    let probed = c.probe_page_size.new.files in
    let log_was : made.log ≡ probed.log = ap (λ p. p.0) c.in_ok-log.ensures.files in
    let db_was : made.db ≡ probed.db = ap (λ p. p.1) c.in_ok-log.ensures.files in
    let logs : disk.seen made.log ≡ disk.seen c.args.files.log = ap disk.seen log_was ∙ c.probe_page_size.ensures.log.seen in
    let dbs : disk.seen made.db ≡ disk.seen c.args.files.db = ap disk.seen db_was ∙ c.probe_page_size.ensures.db.seen in
    let before : image made ≡ seen_image disk c.args.files.log c.args.files.db = ap₂ (λ l d. record { log = l; db = d }) logs dbs in
    let made_low : AreClean disk made.log made.db = c.in_ok-recover.ensures.honest was_low in
    let probed_low : AreClean disk probed.log probed.db = subst (λ l. AreClean disk l probed.db) log_was (subst (λ d. AreClean disk made.log d) db_was made_low) in
    let all_frames : committed_frames found ≡ c.frames-frames.result = c.in_ok-recover.ensures.frames ∙ sym c.frames-frames.ensures in
    let held : pages_after (bytes_of c.in-Some.size) [] (disk.seen last.db) 0 ≡ (state found).committed =
    subst (λ n. pages_after n [] (disk.seen last.db) 0 ≡ (state found).committed) sizes (alone_committed last none ∙ keeps.committed is_open) in
    record {
      size = bytes_of c.in-Some.size;
      sized = record {
        by_log = λ some. named_is _ _ _ c.in-Some.is (c.in_ok-size.ensures.by_log probed_low some);
        by_file = λ none. named_is _ _ _ c.in-Some.is (c.in_ok-size.ensures.by_file probed_low none);
      };
      pages = (state found).committed;
      found = subst (λ n. Recovers n (seen_image disk c.args.files.log c.args.files.db) (state found).committed) size
          (subst (λ i. Recovers made.page_size i (state found).committed) before (c.in_ok-recover.ensures.found was_low));
      alone = subst (λ d. pages_after (bytes_of c.in-Some.size) [] (disk.seen d) 0 ≡ (state found).committed) (sym db) held;
      durable = subst (λ d. Only (disk.seen d) (disk.may_leave d)) (sym db) (only_seen last none is_open);
      frames = subst (λ k. Replays (bytes_of c.in-Some.size) (disk.seen c.args.files.log) k) all_frames
          (subst (λ n. Replays n (disk.seen c.args.files.log) (committed_frames found)) size
          (subst (λ l. Replays made.page_size l (committed_frames found)) logs (c.in_ok-recover.ensures.taken was_low)));
    }
