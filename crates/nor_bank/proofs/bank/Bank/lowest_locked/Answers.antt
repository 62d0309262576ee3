use Rattle.std.proofs.Common.{◌∙◌, sym, ap, arith}
use Rattle.nor_query.specs.Derived.{locks_of}
use Rattle.nor_cell.proofs.Logic.{if_gave}
use Rattle.nor_bank.specs.Locks.{LosesLocks, locks_most}
use Rattle.nor_bank.specs.State.{BankState}
use Rattle.nor_bank.proofs.LocksSearching.{SearchesIn, none_offered, unlocked_none, unlocked_more, search_there, search_offers, search_lost, search_found, found_read, found_lowest, search_over, over_lowest}
use Rattle.nor_bank.proofs.bank.Bank.lowest_locked.Goals as goal

pub returns-then-not-has_locks-clause-lowest : goal.returns-then-not-has_locks-clause-lowest
returns-then-not-has_locks-clause-lowest g c = λ a shows.
    sym (none_offered c.args.self.now a c.args.reach (sym (ap (λ (b : BankState). locks_of b.found.query.extended) c.self.view_is) ∙ sym c.if-not-has_locks.ensures.value) shows.stands)

pub loop-block-init : goal.loop-block-init
loop-block-init g c = unlocked_none c.touched-first.result.0 c.touched-first.result.1 c.args.self.now

pub reads_locked-requires-clause-there : goal.reads_locked-requires-clause-there
reads_locked-requires-clause-there g c =
    let old = c.args.self.now in
    let is : SearchesIn old c.args.reach c.touched-first.result.0 c.touched-first.result.1 = record {
      offers = sym (ap (λ (b : BankState). locks_of b.found.query.extended) c.self.view_is) ∙ sym c.if-not-has_locks.ensures.value;
      there = c.touched-first.ensures.there;
      touched = c.touched-first.ensures.touches;
      count = c.touched-first.ensures.count;
    } in
    search_there old c.args.reach c.touched-first.result.0 c.touched-first.result.1 is c.loop-block.block c.loop-block.self c.loop-block.invariant c.loop-block-test.true

pub reads_locked-requires-clause-offers : goal.reads_locked-requires-clause-offers
reads_locked-requires-clause-offers g c =
    let old = c.args.self.now in
    let is : SearchesIn old c.args.reach c.touched-first.result.0 c.touched-first.result.1 = record {
      offers = sym (ap (λ (b : BankState). locks_of b.found.query.extended) c.self.view_is) ∙ sym c.if-not-has_locks.ensures.value;
      there = c.touched-first.ensures.there;
      touched = c.touched-first.ensures.touches;
      count = c.touched-first.ensures.count;
    } in
    search_offers old c.args.reach c.touched-first.result.0 c.touched-first.result.1 is c.loop-block.block c.loop-block.self c.loop-block.invariant

pub returns-in_err-reads_locked-clause-loses : goal.returns-in_err-reads_locked-clause-loses
returns-in_err-reads_locked-clause-loses g c =
    let old = c.args.self.now in
    let is : SearchesIn old c.args.reach c.touched-first.result.0 c.touched-first.result.1 = record {
      offers = sym (ap (λ (b : BankState). locks_of b.found.query.extended) c.self.view_is) ∙ sym c.if-not-has_locks.ensures.value;
      there = c.touched-first.ensures.there;
      touched = c.touched-first.ensures.touches;
      count = c.touched-first.ensures.count;
    } in
    let reply = c.in_err-reads_locked.field-0.0 in
    if_gave c.from_residual.result reply (LosesLocks (locks_most old.found c.args.reach) old c.reads_locked.new.self) c.from_residual.ensures.1
    (search_lost old c.args.reach c.touched-first.result.0 c.touched-first.result.1 is c.loop-block.block c.loop-block.self c.loop-block.invariant
    c.reads_locked.new.self reply c.loop-block.auto.block c.loop-block-test.true c.in_err-reads_locked.ensures.loses)

pub returns-then-branch-clause-lowest : goal.returns-then-branch-clause-lowest
returns-then-branch-clause-lowest g c =
    let old = c.args.self.now in
    let is : SearchesIn old c.args.reach c.touched-first.result.0 c.touched-first.result.1 = record {
      offers = sym (ap (λ (b : BankState). locks_of b.found.query.extended) c.self.view_is) ∙ sym c.if-not-has_locks.ensures.value;
      there = c.touched-first.ensures.there;
      touched = c.touched-first.ensures.touches;
      count = c.touched-first.ensures.count;
    } in
    found_lowest old c.args.reach c.touched-first.result.0 c.touched-first.result.1 is c.loop-block.block c.loop-block.self c.loop-block.invariant
    c.loop-block.auto.block c.loop-block-test.true (λ a shows. sym c.if-branch.true ∙ c.in_ok-reads_locked.ensures.locked a shows)

pub returns-then-branch-clause-found : goal.returns-then-branch-clause-found
returns-then-branch-clause-found g c =
    let old = c.args.self.now in
    let is : SearchesIn old c.args.reach c.touched-first.result.0 c.touched-first.result.1 = record {
      offers = sym (ap (λ (b : BankState). locks_of b.found.query.extended) c.self.view_is) ∙ sym c.if-not-has_locks.ensures.value;
      there = c.touched-first.ensures.there;
      touched = c.touched-first.ensures.touches;
      count = c.touched-first.ensures.count;
    } in
    found_read old c.args.reach c.touched-first.result.0 c.touched-first.result.1 is c.loop-block.block c.loop-block.self c.loop-block.invariant c.loop-block.auto.block c.loop-block-test.true

pub returns-then-branch-clause-reads : goal.returns-then-branch-clause-reads
returns-then-branch-clause-reads g c =
    let old = c.args.self.now in
    let is : SearchesIn old c.args.reach c.touched-first.result.0 c.touched-first.result.1 = record {
      offers = sym (ap (λ (b : BankState). locks_of b.found.query.extended) c.self.view_is) ∙ sym c.if-not-has_locks.ensures.value;
      there = c.touched-first.ensures.there;
      touched = c.touched-first.ensures.touches;
      count = c.touched-first.ensures.count;
    } in
    search_found old c.args.reach c.touched-first.result.0 c.touched-first.result.1 is c.loop-block.block c.loop-block.self c.loop-block.invariant
    c.reads_locked.new.self c.loop-block.auto.block c.loop-block-test.true c.in_ok-reads_locked.ensures.reads

pub loop-block-preserved : goal.loop-block-preserved
loop-block-preserved g c =
    unlocked_more c.touched-first.result.0 c.touched-first.result.1 c.loop-block.block c.args.self.now c.loop-block.self c.reads_locked.new.self c.loop-block.auto.block c.loop-block-test.true c.loop-block.invariant
    c.in_ok-reads_locked.ensures.reads (λ a shows. sym c.if-branch.false ∙ c.in_ok-reads_locked.ensures.locked a shows)

pub returns-clause-lowest : goal.returns-clause-lowest
returns-clause-lowest g c =
    let old = c.args.self.now in
    let is : SearchesIn old c.args.reach c.touched-first.result.0 c.touched-first.result.1 = record {
      offers = sym (ap (λ (b : BankState). locks_of b.found.query.extended) c.self.view_is) ∙ sym c.if-not-has_locks.ensures.value;
      there = c.touched-first.ensures.there;
      touched = c.touched-first.ensures.touches;
      count = c.touched-first.ensures.count;
    } in
    let past = c.loop-block-test.false in
    over_lowest old c.args.reach c.touched-first.result.0 c.touched-first.result.1 is c.loop-block.block c.loop-block.self c.loop-block.invariant (omega (arith, past))

pub returns-clause-reads : goal.returns-clause-reads
returns-clause-reads g c =
    let old = c.args.self.now in
    let is : SearchesIn old c.args.reach c.touched-first.result.0 c.touched-first.result.1 = record {
      offers = sym (ap (λ (b : BankState). locks_of b.found.query.extended) c.self.view_is) ∙ sym c.if-not-has_locks.ensures.value;
      there = c.touched-first.ensures.there;
      touched = c.touched-first.ensures.touches;
      count = c.touched-first.ensures.count;
    } in
    search_over old c.args.reach c.touched-first.result.0 c.touched-first.result.1 is c.loop-block.block c.loop-block.self c.loop-block.invariant
