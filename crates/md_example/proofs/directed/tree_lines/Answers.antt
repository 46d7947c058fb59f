use Rattle.std.proofs.Common.{length, ap, arith}
use Rattle.md_digraph6.specs.ArcFile.{digraphs_of}
use Rattle.md_example.proofs.PutLines.{leads_begin, leads_more, leads_end, taken}
use Rattle.md_example.proofs.directed.tree_lines.Goals as goal

pub loop-init : goal.loop-init
loop-init c = record {
  long = (let a = ap length c.new-lines.ensures in let b = c.requires.count in omega arith);
  leads = leads_begin (digraphs_of c.args.bytes.now) c.new-lines.result c.new-text.result.items c.new-lines.ensures c.new-text.ensures.items;
}

pub loop-preserved : goal.loop-preserved
loop-preserved c =
    let took =
    taken c.next.result c.loop.lines c.next.new.self c.next.new.graph c.loop.counter c.args.count c.loop.invariant.long c.loop-test.true c.next.ensures.first c.next.ensures.none in
    record {
      long = (let a = ap length took in let b = c.loop.invariant.long in omega arith);
      leads = leads_more (digraphs_of c.args.bytes.now) c.loop.lines c.next.new.self c.next.new.graph c.loop.text.items c.push_line.new.text.items took c.in_ok-push_line.ensures c.loop.invariant.leads;
    }

pub returns : goal.returns
returns c = leads_end (digraphs_of c.args.bytes.now) c.loop.lines c.loop.text.items (let a = c.loop.invariant.long in omega arith) c.loop.invariant.leads
