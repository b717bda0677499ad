use Rattle.mx_tables.proofs.Common.{Ok, state}
use Rattle.std.proofs.Common.{Err}
use Rattle.mx_tables.proofs.StateLemmas.{no_worry, not_lied}
use Rattle.mx_tables.proofs.MigrationLemmas.{After, found_one, was_before, ours_raised, led, left_raised, stops_led}
use Rattle.mx_tables.proofs.migration.migrate.Given.{Over}
use Rattle.mx_tables.proofs.migration.migrate.Goals as goal

-- the store was found to be of version 1, and the step to version 2 was made
made : (g : Over) (c : goal.In-Ok g) → After g.S.Store c.args.store.now c.find_version.new.store c.upgrade_all.new.conn (Ok c.in-Ok.field-0)
made g c = found_one g.S.Store c.in-One.is c.in_ok-find_version.ensures.stays c.in_ok-find_version.ensures.whole c.in-Ok.ensures.commits c.in-Ok.ensures.stops

-- or left
left : (g : Over) (c : goal.After-open_fault g) → After {X = Unit {0}} g.S.Store c.args.store.now c.find_version.new.store c.upgrade_all.new.conn (Err c.in-Err.fault)
left g c = found_one g.S.Store c.in-One.is c.in_ok-find_version.ensures.stays c.in_ok-find_version.ensures.whole c.in-Err.ensures.commits c.in-Err.ensures.stops

pub returns-in-Ok-clause-later : goal.returns-in-Ok-clause-later
returns-in-Ok-clause-later g c = was_before g.S.Store (made g c)

pub returns-in-Ok-clause-ours : goal.returns-in-Ok-clause-ours
returns-in-Ok-clause-ours g c = ours_raised g.S.Store (made g c)

pub returns-in-Ok-clause-live : goal.returns-in-Ok-clause-live
returns-in-Ok-clause-live g c h = let new = state g.S.Store c.upgrade_all.new.conn in no_worry new (c.in-Ok.ensures.live (not_lied new h)) (not_lied new h)

pub returns-in-Two-clause-live : goal.returns-in-Two-clause-live
returns-in-Two-clause-live g c h = let new = state g.S.Store c.find_version.new.store in no_worry new (c.in_ok-find_version.ensures.live (not_lied new h)) (not_lied new h)

pub returns-in-Ok-clause-migrates : goal.returns-in-Ok-clause-migrates
returns-in-Ok-clause-migrates g c = led g.S.Store (made g c)

pub returns-in-Ok-clause-stops : goal.returns-in-Ok-clause-stops
returns-in-Ok-clause-stops g c = stops_led g.S.Store (made g c)

pub returns-in-Err-clause-later : goal.returns-in-Err-clause-later
returns-in-Err-clause-later g c = was_before g.S.Store (left g c)

pub returns-in-Err-clause-left : goal.returns-in-Err-clause-left
returns-in-Err-clause-left g c = left_raised g.S.Store (left g c)

pub returns-in-Err-clause-stops : goal.returns-in-Err-clause-stops
returns-in-Err-clause-stops g c = stops_led g.S.Store (left g c)
