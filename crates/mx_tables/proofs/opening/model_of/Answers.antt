use Rattle.mx_tables.proofs.Common.{◌≡◌, ◌∙◌, rules, Database, state}
use Rattle.std.proofs.Common.{ap, subst}
use Rattle.sqlite.specs.State.{ReleasesAt}
use Rattle.sqlite.specs.Steps.{over_memory}
use Rattle.sqlite.proofs.Callers.{memory_is_clean}
use Rattle.mx_tables.specs.Schema.{no_schema, schema_of}
use Rattle.mx_tables.specs.Made.{Blank}
use Rattle.mx_tables.proofs.OpeningLemmas.{committed}
use Rattle.mx_tables.proofs.opening.model_of.Goals as goal

pub returns-in-Ok-commit-clause-schema : goal.returns-in-Ok-commit-clause-schema
returns-in-Ok-commit-clause-schema c =
    let old = state over_memory c.in-Ok.conn in
    let mark = state over_memory c.in-Ok-savepoint.tx.conn.now in
    let mid = state over_memory c.make_tables.new.tx.conn.now in
    let new = state over_memory c.commit.new.self.0 in
    let step = c.in_default-make_tables.ensures in
    let empty : old.now.schema ≡ no_schema = search rules in
    let begun = (c.in-Ok-savepoint.ensures.ok (memory_is_clean c.in-Ok-savepoint.tx.conn.now)).1.0 in
    let started : Blank no_schema mark = record { schema_is = ap (λ (d : Database). d.schema) begun.now_is ∙ empty; empty = tt; inside = begun.mode } in
    let whole : Blank (schema_of c.args.version) mid = step.ok (memory_is_clean c.make_tables.new.tx.conn.now) started.inside started in
    let done = committed old mark mid new c.in-Ok-savepoint.tx.at (search rules) c.in-Ok-savepoint.ensures.survives c.in-Ok-savepoint.ensures.ok c.in-Ok-commit.ensures.survives.clean step.within
    (λ clean. subst (λ n. ReleasesAt mid new n) step.place (c.in-Ok-commit.ensures.ok clean)) (memory_is_clean c.commit.new.self.0) in
    let end : c.commit.new.self.0.schema ≡ schema_of c.args.version = ap (λ (d : Database). d.schema) done.now_is ∙ whole.schema_is in
    search rules
