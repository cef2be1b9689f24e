use Rattle.std.proofs.Common.{length}
use Rattle.venue.specs.World as world
use Rattle.wire.specs.Means.{message_of}
use Rattle.wire.specs.declared.message.Message.TheVariants.{EndDay}
use Rattle.reference.specs.Means.{world_of, limits_of}
use Rattle.reference.specs.Conditions.{Fit}
use Rattle.reference.proofs.Ranges.{standing_fit, standing_morning, standing_settles}
use Rattle.reference.proofs.Reported.{answer_room, answered}
use Rattle.reference.proofs.market.Told.obey.Goals as goal
use Rattle.reference.proofs.market.Told.obey.Goals.{Start}

fit : (c : goal.Start) → Fit (world_of c.args.self.now.market)
fit c =
    standing_fit (limits_of c.args.self.now.market.limits c.requires.standing.0) (world_of c.args.self.now.market)
    c.requires.standing.1

pub pay_in-taken-requires : goal.pay_in-taken-requires
pay_in-taken-requires c = record { fit = fit (goal.at.pay_in-taken-requires c).Start }

pub pay_out-taken-requires : goal.pay_out-taken-requires
pay_out-taken-requires c = record { fit = fit (goal.at.pay_out-taken-requires c).Start }

pub end_day-taken-requires : goal.end_day-taken-requires
end_day-taken-requires c =
    record {
      fit = fit (goal.at.end_day-taken-requires c).Start;
      settles = standing_settles c.args.self.now.market.limits.orders c.args.self.now.market.limits.money c.requires.standing.0 (world_of c.args.self.now.market)
          c.requires.standing.1;
    }

pub place-requires-clause-fit : goal.place-requires-clause-fit
place-requires-clause-fit c = fit (goal.at.place-requires-clause-fit c).Start

pub begin_day-requires-clause-morning : goal.begin_day-requires-clause-morning
begin_day-requires-clause-morning c =
    let s = c.requires.standing in
    let z = limits_of c.args.self.now.market.limits s.0 in
    let w = world_of c.args.self.now.market in
    standing_morning z w s.1

pub begin_day-requires-clause-room : goal.begin_day-requires-clause-room
begin_day-requires-clause-room c =
    let s = c.requires.standing in
    let z = limits_of c.args.self.now.market.limits s.0 in
    (z, rw c.in-BeginDay.is at (c.requires.room s.0))

pub returns-in-Place : goal.returns-in-Place
returns-in-Place c = λ k. rw c.in-Place.is (c.place.ensures k)

pub returns-in-BeginDay : goal.returns-in-BeginDay
returns-in-BeginDay c = λ k. rw c.in-BeginDay.is (c.begin_day.ensures (limits_of c.args.self.now.market.limits k))

pub answer-requires : goal.answer-requires
answer-requires c =
    let k = c.requires.standing.0 in
    record {
      room = answer_room (limits_of c.args.self.now.market.limits k) (λ w. world.pay_in c.in-PayIn.account c.in-PayIn.amount) c.args.self.now
          c.pay_in-taken.new.self _ (c.pay_in-taken.ensures k) (rw c.in-PayIn.is at (c.requires.room k));
    }

pub returns-in-PayIn : goal.returns-in-PayIn
returns-in-PayIn c =
    λ k. rw c.in-PayIn.is (answered (limits_of c.args.self.now.market.limits k) (λ w. world.pay_in c.in-PayIn.account c.in-PayIn.amount) c.args.self.now
    c.pay_in-taken.new.self _ (c.pay_in-taken.ensures k) c.answer.new.self c.answer.ensures)

pub answer-requires-in-PayOut : goal.answer-requires-in-PayOut
answer-requires-in-PayOut c =
    let k = c.requires.standing.0 in
    record {
      room = answer_room (limits_of c.args.self.now.market.limits k) (λ w. world.pay_out c.in-PayOut.account c.in-PayOut.amount) c.args.self.now
          c.pay_out-taken.new.self _ (c.pay_out-taken.ensures (limits_of c.args.self.now.market.limits k)) (rw c.in-PayOut.is at (c.requires.room k));
    }

pub returns-in-PayOut : goal.returns-in-PayOut
returns-in-PayOut c =
    λ k. rw c.in-PayOut.is (answered (limits_of c.args.self.now.market.limits k) (λ w. world.pay_out c.in-PayOut.account c.in-PayOut.amount) c.args.self.now
    c.pay_out-taken.new.self _ (c.pay_out-taken.ensures (limits_of c.args.self.now.market.limits k)) c.answer-in-PayOut.new.self c.answer-in-PayOut.ensures)

pub answer-requires-in-Cancel : goal.answer-requires-in-Cancel
answer-requires-in-Cancel c =
    let k = c.requires.standing.0 in
    record {
      room = answer_room (limits_of c.args.self.now.market.limits k) (λ w. world.cancel c.in-Cancel.account c.in-Cancel.number) c.args.self.now
          c.cancel-taken.new.self _ (c.cancel-taken.ensures (limits_of c.args.self.now.market.limits k)) (rw c.in-Cancel.is at (c.requires.room k));
    }

pub returns-in-Cancel : goal.returns-in-Cancel
returns-in-Cancel c =
    λ k. rw c.in-Cancel.is (answered (limits_of c.args.self.now.market.limits k) (λ w. world.cancel c.in-Cancel.account c.in-Cancel.number) c.args.self.now
    c.cancel-taken.new.self _ (c.cancel-taken.ensures (limits_of c.args.self.now.market.limits k)) c.answer-in-Cancel.new.self c.answer-in-Cancel.ensures)

pub answer-requires-in-EndDay : goal.answer-requires-in-EndDay
answer-requires-in-EndDay c =
    let k = c.requires.standing.0 in
    record {
      room = answer_room (limits_of c.args.self.now.market.limits k) (λ w. message_of c.args.bytes.now (length w.items) (EndDay c.in-EndDay.prices)) c.args.self.now
          c.end_day-taken.new.self _ (c.end_day-taken.ensures (limits_of c.args.self.now.market.limits k)) (rw c.in-EndDay.is at (c.requires.room k));
    }

pub returns-in-EndDay : goal.returns-in-EndDay
returns-in-EndDay c =
    λ k. rw c.in-EndDay.is (answered (limits_of c.args.self.now.market.limits k) (λ w. message_of c.args.bytes.now (length w.items) (EndDay c.in-EndDay.prices)) c.args.self.now
    c.end_day-taken.new.self _ (c.end_day-taken.ensures (limits_of c.args.self.now.market.limits k)) c.answer-in-EndDay.new.self c.answer-in-EndDay.ensures)
