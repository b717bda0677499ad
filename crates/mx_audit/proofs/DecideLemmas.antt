-- What was gone over decides whether there is a World.
use Rattle.mx_tables.proofs.Common.{◌≡◌, true, List, Database, Rows, Row, Holds, office_schema}
use Rattle.std.proofs.Common.{sym, subst}
use Rattle.std.specs.List.{list_all}
use Rattle.sqlite.specs.Effect.{IsDatabase}
use Rattle.mx_book.specs.Rows.{world_of}
use Rattle.mx_book.specs.RowReads.{row_is_archived}
use Rattle.mx_book.specs.World.{World}
use Rattle.mx_tables.specs.Answers.{ArePurses}
use Rattle.mx_tables.specs.Holds.{Spells, SpellsOne}
use Rattle.mx_tables.specs.Made.{HasVersion}
use Rattle.mx_tables.specs.Results.{AreDetails}
use Rattle.mx_tables.proofs.KeptLemmas.{spelled_one}
use Rattle.mx_audit.specs.Audit.{IsBegun}
use Rattle.mx_audit.specs.Audited.{GoesOver, IsLookedUp, IsScan, is_laid_well, sources}
use Rattle.mx_audit.specs.Raw.{AreInOrder}
use Rattle.mx_audit.specs.Readings.{AreRead, fed_of}
use Rattle.mx_audit.specs.Seen.{is_whole}
use Rattle.mx_audit.specs.declared.audit.Audit.{Audit}
use Rattle.mx_audit.specs.declared.typed.Source.{Source}
use Rattle.mx_audit.specs.declared.typed.TypedRow.{TypedRow}
use Rattle.mx_audit.proofs.AuditLemmas.{Decides}
use Rattle.mx_audit.proofs.ContentsLemmas.{contents_of, reads_of, lists_of}
use Rattle.mx_audit.proofs.FedLemmas.{sound_fed}
use Rattle.mx_audit.proofs.FedSoundLemmas.{fed_sound, laid_sound, cleared_sound}
use Rattle.mx_audit.proofs.FirstTokenLemmas.{first_token}
use Rattle.mx_audit.proofs.FoldLemmas.{over_read, over_fine}
use Rattle.mx_audit.proofs.LookedLemmas.{laid_well, laid_from, cleared_well, cleared_from, purses_limited, details_limited, purses_sound, details_sound}
use Rattle.mx_audit.proofs.SoundLemmas.{sound_spells, spells_sound}
use Rattle.mx_audit.proofs.TypedLemmas.{unique}

-- where there is a World all rows are read and fit, and what has to be looked up is as it should be
found_none : (db : Database) (begin final : Audit) → IsBegun begin → GoesOver db.trees sources begin final → (w : World) (s : Spells db w)
    → (final.found ≡ 0) × (is_whole final.seen ≡ true) × ArePurses s.rows × AreDetails s.rows.archive × IsLookedUp s.rows final
found_none db begin final began goes w s =
    let r = s.rows in
    let sound = spells_sound r w s.spells in
    let listed = λ (read : Source → List TypedRow) (of : (from : Source) → (rows : List Row) × IsScan from db.trees rows × AreRead from rows (read from)).
    lists_of db r s.holds sound read (λ from. (of from).0) (λ from. ((of from).1, (of from).2)) in
    let fine = over_fine db.trees begin final began goes (reads_of db r s.holds sound) unique (λ read of. fed_sound (fed_of read) r (listed read of) sound) in
    let all = over_read db.trees begin final began goes fine.0 in
    let lists = listed all.0 (λ from. (all.1 from, (all.2 from).0, (all.2 from).1)) in (
      fine.0,
      fine.1,
      purses_sound r sound,
      details_sound r sound,
      (
        subst (λ l. list_all (is_laid_well r) l ≡ true) (sym all.4) (laid_well (fed_of all.0) r lists (laid_sound r sound)),
        subst (λ l. list_all (λ e. row_is_archived r e.0 e.1) l ≡ true) (sym all.5) (cleared_well all.0 r lists (cleared_sound r sound)),
      ),
    )

-- where nothing was found there is one
world_found : (db : Database) (begin final : Audit) → db.schema ≡ office_schema → IsBegun begin → GoesOver db.trees sources begin final → IsDatabase db → AreInOrder db → HasVersion 2 db → final.found ≡ 0 → is_whole final.seen ≡ true
    → (r : Rows) × Holds db r × ArePurses r × AreDetails r.archive × (IsLookedUp r final → SpellsOne db (world_of r))
world_found db begin final has began goes sound rise version none whole =
    let all = over_read db.trees begin final began goes none in
    let f = fed_of all.0 in
    let first = first_token f final.seen all.3 whole in
    let made = contents_of db all.0 all.1 has sound rise version all.2 first.0 first.1 first.2 in
    let r = made.0 in
    let lists = made.2 in (
      r,
      made.1,
      purses_limited f r lists made.3,
      details_limited f r lists made.3,
      λ looked.
          let laid = laid_from f r lists (subst (λ l. list_all (is_laid_well r) l ≡ true) all.4 looked.0) in
          let cleared = cleared_from all.0 r lists (subst (λ l. list_all (λ e. row_is_archived r e.0 e.1) l ≡ true) all.5 looked.1) in
          spelled_one (record { rows = r; holds = made.1; spells = sound_spells r (sound_fed f r final.seen lists made.3 all.3 whole laid cleared) }),
    )

pub decides : (db : Database) (begin final : Audit) → db.schema ≡ office_schema → IsBegun begin → GoesOver db.trees sources begin final → Decides db final
decides db begin final has began goes = record { fine = found_none db begin final began goes; holds = world_found db begin final has began goes }
