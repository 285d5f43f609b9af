use Rattle.hph_wlink.proofs.Rows.{are_there, are_functions, main_missing, one_missing, none_missing}
use Rattle.hph_wlink.proofs.linked.link.Goals as goal

pub main_function-requires : goal.main_function-requires
main_function-requires g c = are_functions g.H.AnyHost.meaning c.args.m.now c.args.m.now.imports c.in_ok-rows.rows c.in_ok-rows.ensures.rows

pub returns-in-Some-clause-linked : goal.returns-in-Some-clause-linked
returns-in-Some-clause-linked g c = record {
  imports = are_there g.H.AnyHost.meaning c.args.m.now c.args.m.now.imports c.in_ok-rows.rows c.in_ok-rows.ensures.rows;
  main = (c.in-Some.main, c.in-Some.ensures.0, c.in-Some.ensures.1);
}

pub returns-in-Some-clause-refused : goal.returns-in-Some-clause-refused
returns-in-Some-clause-refused g c = none_missing g.H.AnyHost.meaning c.args.m.now (record {
  imports = are_there g.H.AnyHost.meaning c.args.m.now c.args.m.now.imports c.in_ok-rows.rows c.in_ok-rows.ensures.rows;
  main = (c.in-Some.main, c.in-Some.ensures.0, c.in-Some.ensures.1);
})

pub returns-in-None-clause-fault : goal.returns-in-None-clause-fault
returns-in-None-clause-fault g c =
    main_missing g.H.AnyHost.meaning c.args.m.now c.in_ok-rows.rows c.len.result c.in_ok-rows.ensures.rows c.in-None.ensures c.len.ensures

pub returns-in-None-clause-refused : goal.returns-in-None-clause-refused
returns-in-None-clause-refused g c = λ k first.
    one_missing g.H.AnyHost.meaning c.args.m.now (c.one_obstacle_is_first.ensures g.H.AnyHost.meaning c.args.m.now) c.len.result k
    (main_missing g.H.AnyHost.meaning c.args.m.now c.in_ok-rows.rows c.len.result c.in_ok-rows.ensures.rows c.in-None.ensures c.len.ensures) first
