use Rattle.mx_files.proofs.stores.make_in_store.Goals as goal

pub returns-in-Ok-clause-made : goal.returns-in-Ok-clause-made
returns-in-Ok-clause-made g c = λ calm. ∣ rw c.into_store.ensures.same (c.in-Ok.ensures.opens (rw c.into_store.ensures.same at calm)) ∣₁
