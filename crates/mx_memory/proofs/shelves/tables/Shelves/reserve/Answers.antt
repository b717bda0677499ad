use Rattle.std.proofs.lemmas.Result.{IfOk-from_err}
use Rattle.mx_memory.specs.Shelves.{rows_of}
use Rattle.mx_memory.proofs.shelves.tables.Shelves.reserve.Goals as goal

pub returns-in_err-reserve : goal.returns-in_err-reserve
returns-in_err-reserve c = record {
  same = λ i. record (rows_of c.args.self.now) { tokens = c.reserve.ensures.map i };
  ok = IfOk-from_err _ _ c.from_residual-in_err-reserve.ensures.0;
}

pub returns-in_err-reserve-2 : goal.returns-in_err-reserve-2
returns-in_err-reserve-2 c = record {
  same = λ i. record (rows_of c.args.self.now) { tokens = c.reserve.ensures.map i; members = c.reserve-2.ensures.map i };
  ok = IfOk-from_err _ _ c.from_residual-in_err-reserve-2.ensures.0;
}

pub returns-in_err-reserve-3 : goal.returns-in_err-reserve-3
returns-in_err-reserve-3 c = record {
  same = λ i. record (rows_of c.args.self.now) { tokens = c.reserve.ensures.map i; members = c.reserve-2.ensures.map i; holders = c.reserve-3.ensures.map i };
  ok = IfOk-from_err _ _ c.from_residual-in_err-reserve-3.ensures.0;
}

pub returns-in_err-reserve-4 : goal.returns-in_err-reserve-4
returns-in_err-reserve-4 c = record {
  same = λ i. record (rows_of c.args.self.now) { tokens = c.reserve.ensures.map i; members = c.reserve-2.ensures.map i; holders = c.reserve-3.ensures.map i; purses = c.reserve-4.ensures.map i };
  ok = IfOk-from_err _ _ c.from_residual-in_err-reserve-4.ensures.0;
}

pub returns-in_err-reserve-5 : goal.returns-in_err-reserve-5
returns-in_err-reserve-5 c = record {
  same = λ i. record (rows_of c.args.self.now) { tokens = c.reserve.ensures.map i; members = c.reserve-2.ensures.map i; holders = c.reserve-3.ensures.map i; purses = c.reserve-4.ensures.map i; inbox = c.reserve-5.ensures.map i };
  ok = IfOk-from_err _ _ c.from_residual-in_err-reserve-5.ensures.0;
}

pub returns-in_err-reserve-6 : goal.returns-in_err-reserve-6
returns-in_err-reserve-6 c = record {
  same = λ i. record (rows_of c.args.self.now) { tokens = c.reserve.ensures.map i; members = c.reserve-2.ensures.map i; holders = c.reserve-3.ensures.map i; purses = c.reserve-4.ensures.map i; inbox = c.reserve-5.ensures.map i; lines = c.reserve-6.ensures.map i };
  ok = IfOk-from_err _ _ c.from_residual-in_err-reserve-6.ensures.0;
}

pub returns-in_err-reserve-7 : goal.returns-in_err-reserve-7
returns-in_err-reserve-7 c = record {
  same = λ i. record (rows_of c.args.self.now) { tokens = c.reserve.ensures.map i; members = c.reserve-2.ensures.map i; holders = c.reserve-3.ensures.map i; purses = c.reserve-4.ensures.map i; inbox = c.reserve-5.ensures.map i; lines = c.reserve-6.ensures.map i; tray = c.reserve-7.ensures.map i };
  ok = IfOk-from_err _ _ c.from_residual-in_err-reserve-7.ensures.0;
}

pub returns-in_err-reserve-8 : goal.returns-in_err-reserve-8
returns-in_err-reserve-8 c = record {
  same = λ i. record (rows_of c.args.self.now) { tokens = c.reserve.ensures.map i; members = c.reserve-2.ensures.map i; holders = c.reserve-3.ensures.map i; purses = c.reserve-4.ensures.map i; inbox = c.reserve-5.ensures.map i; lines = c.reserve-6.ensures.map i; tray = c.reserve-7.ensures.map i; archive = c.reserve-8.ensures.map i };
  ok = IfOk-from_err _ _ c.from_residual-in_err-reserve-8.ensures.0;
}

pub returns-in_err-reserve-9 : goal.returns-in_err-reserve-9
returns-in_err-reserve-9 c = record {
  same = λ i. record (rows_of c.args.self.now) { tokens = c.reserve.ensures.map i; members = c.reserve-2.ensures.map i; holders = c.reserve-3.ensures.map i; purses = c.reserve-4.ensures.map i; inbox = c.reserve-5.ensures.map i; lines = c.reserve-6.ensures.map i; tray = c.reserve-7.ensures.map i; archive = c.reserve-8.ensures.map i; settled = c.reserve-9.ensures.map i };
  ok = IfOk-from_err _ _ c.from_residual-in_err-reserve-9.ensures.0;
}

pub returns-in_err-reserve-10 : goal.returns-in_err-reserve-10
returns-in_err-reserve-10 c = record {
  same = λ i. record (rows_of c.args.self.now) { tokens = c.reserve.ensures.map i; members = c.reserve-2.ensures.map i; holders = c.reserve-3.ensures.map i; purses = c.reserve-4.ensures.map i; inbox = c.reserve-5.ensures.map i; lines = c.reserve-6.ensures.map i; tray = c.reserve-7.ensures.map i; archive = c.reserve-8.ensures.map i; settled = c.reserve-9.ensures.map i; loads = c.reserve-10.ensures.map i };
  ok = IfOk-from_err _ _ c.from_residual-in_err-reserve-10.ensures.0;
}

pub returns-in_err-reserve-11 : goal.returns-in_err-reserve-11
returns-in_err-reserve-11 c = record {
  same = λ i. record (rows_of c.args.self.now) { tokens = c.reserve.ensures.map i; members = c.reserve-2.ensures.map i; holders = c.reserve-3.ensures.map i; purses = c.reserve-4.ensures.map i; inbox = c.reserve-5.ensures.map i; lines = c.reserve-6.ensures.map i; tray = c.reserve-7.ensures.map i; archive = c.reserve-8.ensures.map i; settled = c.reserve-9.ensures.map i; loads = c.reserve-10.ensures.map i; redemptions = c.reserve-11.ensures.map i };
  ok = IfOk-from_err _ _ c.from_residual-in_err-reserve-11.ensures.0;
}

pub returns-in_err-reserve-12 : goal.returns-in_err-reserve-12
returns-in_err-reserve-12 c = record {
  same = λ i. record (rows_of c.args.self.now) { tokens = c.reserve.ensures.map i; members = c.reserve-2.ensures.map i; holders = c.reserve-3.ensures.map i; purses = c.reserve-4.ensures.map i; inbox = c.reserve-5.ensures.map i; lines = c.reserve-6.ensures.map i; tray = c.reserve-7.ensures.map i; archive = c.reserve-8.ensures.map i; settled = c.reserve-9.ensures.map i; loads = c.reserve-10.ensures.map i; redemptions = c.reserve-11.ensures.map i };
  ok = IfOk-from_err _ _ c.from_residual-in_err-reserve-12.ensures.0;
}

pub returns-clause-same : goal.returns-clause-same
returns-clause-same c = λ i. record (rows_of c.args.self.now) { tokens = c.reserve.ensures.map i; members = c.reserve-2.ensures.map i; holders = c.reserve-3.ensures.map i; purses = c.reserve-4.ensures.map i; inbox = c.reserve-5.ensures.map i; lines = c.reserve-6.ensures.map i; tray = c.reserve-7.ensures.map i; archive = c.reserve-8.ensures.map i; settled = c.reserve-9.ensures.map i; loads = c.reserve-10.ensures.map i; redemptions = c.reserve-11.ensures.map i }
