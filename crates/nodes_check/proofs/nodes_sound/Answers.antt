-- Each pass decides some of the conditions, and the passes before it let the next follow links.
use mathlib.Core.Bool.{not}
use mathlib.Core.Path.{ap}
use Rattle.nodes.proofs.Fields.{length_sized}
use Rattle.nodes_check.proofs.Answers.{refutes, shows}
use Rattle.nodes_check.proofs.Whole.{root_refuses, spots_refuse, chains_refuse, fews_refuse, may_follow, tags_decide}
use Rattle.nodes_check.proofs.nodes_sound.Goals as goal

pub root_ok-requires : goal.root_ok-requires
root_ok-requires c = (length_sized _ c.requires).some_node

pub returns-then-not-root_ok : goal.returns-then-not-root_ok
returns-then-not-root_ok c =
    root_refuses _ _ c.requires (refutes c.root_ok.ensures (ap not c.if-not-root_ok.true))

pub returns-then-not-spots_ok : goal.returns-then-not-spots_ok
returns-then-not-spots_ok c =
    spots_refuse _ _ c.requires (refutes c.spots_ok.ensures (ap not c.if-not-spots_ok.true))

pub chains_ok-requires : goal.chains_ok-requires
chains_ok-requires c =
    may_follow _ _ c.requires
    (shows c.root_ok.ensures (ap not c.if-not-root_ok.false))
    (shows c.spots_ok.ensures (ap not c.if-not-spots_ok.false))

pub returns-then-not-chains_ok : goal.returns-then-not-chains_ok
returns-then-not-chains_ok c =
    chains_refuse _ _ c.requires (refutes c.chains_ok.ensures (ap not c.if-not-chains_ok.true))

pub fews_ok-requires : goal.fews_ok-requires
fews_ok-requires c =
    (may_follow _ _ c.requires
    (shows c.root_ok.ensures (ap not c.if-not-root_ok.false))
    (shows c.spots_ok.ensures (ap not c.if-not-spots_ok.false))).links

pub returns-then-not-fews_ok : goal.returns-then-not-fews_ok
returns-then-not-fews_ok c =
    fews_refuse _ _ c.requires (refutes c.fews_ok.ensures (ap not c.if-not-fews_ok.true))

pub returns : goal.returns
returns c =
    tags_decide _ _ c.requires
    (shows c.root_ok.ensures (ap not c.if-not-root_ok.false))
    (shows c.spots_ok.ensures (ap not c.if-not-spots_ok.false))
    (shows c.chains_ok.ensures (ap not c.if-not-chains_ok.false))
    (shows c.fews_ok.ensures (ap not c.if-not-fews_ok.false))
    c.tags_ok.ensures
