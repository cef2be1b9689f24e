use Rattle.std.proofs.Common.{◌≡◌, map, length, vec_items, sym, refl, ap, ◌∙◌, subst, arith}
use Rattle.venue.proofs.Messages.{leads_says}
use Rattle.venue.proofs.RangesMarket.{sized_says}
use Rattle.venue.proofs.Reports.{says_reports}
use Rattle.venue.proofs.Sounds.{sound_inv, sound_says}
use Rattle.venue.specs.Sizes.{Sized}
use Rattle.venue.specs.Sound.{Sound}
use Rattle.venue.specs.World as world
use Rattle.venue.specs.World.{kind, says, says_it}
use Rattle.wire.specs.Means.{kinds_of, message_of, report_of}
use Rattle.reference.specs.Means.{limits_of, world_of}
use Rattle.reference.specs.Plain.{plain_limits, plain_world}
use Rattle.reference.proofs.Reported.{after_nothing, one_more}
use Rattle.reference.proofs.Standing.{says_any, says_built, says_not, sizes_tell, sizes_test}
use Rattle.reference.proofs.plain_market.PlainMarket.hear.Goals as goal
use Rattle.reference.proofs.plain_market.PlainMarket.hear.Goals.{After-contains, Then-contains, After-obey}

-- the message, and whether its kind is built
abbrev said : (c : goal.After-contains) → world.Message
said c = message_of c.args.bytes.now (length (plain_world c.args.self.now).items) c.args.message

built : (c : goal.After-contains) → c.contains.result ≡ kinds_of c.args.self.now.kinds (kind (said c))
built c = c.contains.ensures ∙ ap (kinds_of c.args.self.now.kinds)
    (c.kind.ensures c.args.bytes.now (length (plain_world c.args.self.now).items))

-- what a message that is built does
says_is : (c : goal.Then-contains) →
    says (plain_limits c.args.self.now) (plain_world c.args.self.now)
    (message_of c.args.bytes.now (length (plain_world c.args.self.now).items) c.args.message) ≡
    says_it (plain_limits c.args.self.now) (plain_world c.args.self.now)
    (message_of c.args.bytes.now (length (plain_world c.args.self.now).items) c.args.message)
says_is c =
    let a = (goal.at.Then-contains c).After-contains in
    says_built (plain_limits c.args.self.now) (plain_world c.args.self.now) (said a)
    (sym (built a) ∙ c.if-contains.true)

pub obey-requires-clause-room : goal.obey-requires-clause-room
obey-requires-clause-room c =
    let m = c.args.self.now in
    let k = kinds_of m.kinds in
    let w = plain_world m in
    let q = message_of c.args.bytes.now (length w.items) c.args.message in
    let s = says_is (goal.at.obey-requires-clause-room c).Then-contains in
    let r = says_reports (limits_of m.told.market.limits k) w q m.sound in
    let f = ap (λ p. length p.1) s in
    λ j.
    let e = ap (λ p. length p.1) (says_any m.told.market.limits j k w q) in
    omega (arith, m.room, c.clear.ensures.len, c.clear.ensures.capacity)

-- the market after it
after_it : (c : goal.After-obey) →
    (world_of c.obey.new.self.market, map report_of (vec_items c.obey.new.self.reports)) ≡
    says (plain_limits c.args.self.now) (plain_world c.args.self.now)
    (message_of c.args.bytes.now (length (plain_world c.args.self.now).items) c.args.message)
after_it c =
    (c.obey.ensures (kinds_of c.args.self.now.kinds)).after ∙ after_nothing _ _ c.clear.ensures.items ∙
    sym (says_is (goal.at.After-obey c).Then-contains)

pub invariant_of-self : goal.invariant_of-self
invariant_of-self c =
    let m = c.args.self.now in
    let k = kinds_of m.kinds in
    let z = plain_limits m in
    let w = plain_world m in
    let q = message_of c.args.bytes.now (length w.items) c.args.message in
    let e : world_of c.obey.new.self.market ≡ (says z w q).0 = ap (λ p. p.0) (after_it c) in
    let l = leads_says z w q (sound_inv z w m.sound) in
    let a = ap (λ v. length v.accounts) e ∙ l.accounts in
    let i = ap (λ v. length v.items) e ∙ l.items in
    let f : c.obey.new.self.market.limits ≡ c.args.self.now.told.market.limits = (c.obey.ensures k).limits in
    record {
      sound = rw f (subst (Sound z) (sym e) (sound_says z w q m.sound));
      sized = rw f (sizes_test m.told.market.limits k (world_of c.obey.new.self.market)
          (subst (Sized z) (sym e) (sized_says z w q m.sound (sizes_tell m.told.market.limits k w m.sized))));
      room = rw (a, i, f) (omega (arith, m.room, (c.obey.ensures k).reports, c.clear.ensures.capacity));
    }

pub returns-then-contains-clause-market : goal.returns-then-contains-clause-market
returns-then-contains-clause-market c = ap (λ p. p.0) (after_it (goal.at.returns-then-contains-clause-market c).After-obey)

pub returns-then-contains-clause-reports : goal.returns-then-contains-clause-reports
returns-then-contains-clause-reports c = ap (λ p. p.1) (after_it (goal.at.returns-then-contains-clause-reports c).After-obey)

pub returns-then-contains-clause-limits : goal.returns-then-contains-clause-limits
returns-then-contains-clause-limits c =
    let k = kinds_of c.args.self.now.kinds in ap (λ l. limits_of l k) (c.obey.ensures k).limits

pub returns-else-contains : goal.returns-else-contains
returns-else-contains c =
    let a = (goal.at.returns-else-contains c).After-contains in
    let m = c.args.self.now in
    let n = says_not (plain_limits m) (plain_world m) (said a) (sym (built a) ∙ c.if-contains.false) in
    let p = rw c.clear.ensures.items at (one_more _ _ _ c.push_reserved.ensures.items) in
    record { market = sym (ap (λ y. y.0) n); reports = p ∙ sym (ap (λ y. y.1) n); limits = refl }
