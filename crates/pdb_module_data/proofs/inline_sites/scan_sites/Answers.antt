use Rattle.std.proofs.Common.{rules, Option, ◌≡◌, ◌∷◌, ℕ, List, reverse, None, Ok, Err, sym, ap, ◌∙◌, arith}
use Rattle.pdb_container.specs.Fault.{fault_of}
use Rattle.pdb_module_data.specs.Elements.{nested_past, with_site}
use Rattle.pdb_module_data.specs.Forest.{InSymbols, Site, sites_from}
use Rattle.pdb_symbol_records.specs.Forms.{inline_site_form}
use Rattle.pdb_symbol_records.specs.Iteration.{found_next, symbol_of}
use Rattle.pdb_symbol_records.specs.Symbols.{Symbol}
use Rattle.pdb_module_data.proofs.OpenBodies.{behind_same, HasFound, has_found, scan_ended, scan_fault, scan_popped, scan_last, scan_plain, scan_nested, scan_refused, nested_fewer, scan_site, scan_deep, reads_fault, returned}
use Rattle.pdb_module_data.proofs.inline_sites.scan_sites.Goals as goal
use Rattle.pdb_module_data.proofs.inline_sites.scan_sites.Goals.{In-Some}

found : (c : In-Some) → HasFound c.loop-below.symbols c.in-Some.symbol c.next.new.self
found c = has_found c.loop-below.symbols c.in_ok-symbol.field-0 c.in-Some.symbol c.next.new.self c.in_ok-symbol.ensures.step.0 c.in-Some.is c.in_ok-symbol.ensures.step.1

pub returns-in_err-symbol : goal.returns-in_err-symbol
returns-in_err-symbol c =
    let bad = scan_fault c.loop-below.symbols c.loop-below.top (reverse c.loop-below.below.items) c.loop-below.sites.items (fault_of c.in_err-symbol.field-0.0) c.in_err-symbol.ensures.step.0.1 in
    let read : sites_from c.args.symbols.now.bytes c.args.limit c.args.symbols.now.place ≡ Err (InSymbols (fault_of c.in_err-symbol.field-0.0)) = sym c.loop-below.invariant.reads.same ∙ bad in
    record {
      sites = search (rules, read);
      bytes = search rules;
    }

pub returns-in-None : goal.returns-in-None
returns-in-None c =
    let f = found (goal.at.returns-in-None c).In-Some in
    record {
      sites = sym c.loop-below.invariant.reads.same
          ∙ scan_last c.loop-below.symbols c.next.new.self c.in-Some.symbol c.loop-below.top c.loop-below.below.items c.loop-below.sites.items f (omega arith) (omega (arith, c.loop-below.below.ok.0, c.in-None.ensures.cases.0));
      bytes = f.same ∙ c.loop-below.invariant.bytes;
    }

pub loop-below-preserved-in-Some-pop : goal.loop-below-preserved-in-Some-pop
loop-below-preserved-in-Some-pop c =
    let f = found (goal.at.loop-below-preserved-in-Some-pop c).In-Some in
    record {
      reads = record {
        same = scan_popped c.loop-below.symbols c.next.new.self c.in-Some.symbol c.loop-below.top c.in-Some-pop.open c.loop-below.below.items c.pop.new.self.items c.loop-below.sites.items f (omega arith) c.in-Some-pop.ensures.items
            ∙ c.loop-below.invariant.reads.same;
      };
      bytes = f.same ∙ c.loop-below.invariant.bytes;
    }

pub loop-below-smaller-in-Some-pop : goal.loop-below-smaller-in-Some-pop
loop-below-smaller-in-Some-pop c = (found (goal.at.loop-below-smaller-in-Some-pop c).In-Some).fewer

pub loop-below-preserved-in-Plain : goal.loop-below-preserved-in-Plain
loop-below-preserved-in-Plain c =
    let f = found (goal.at.loop-below-preserved-in-Plain c).In-Some in
    record {
      reads = record {
        same = scan_plain c.loop-below.symbols c.next.new.self c.in-Some.symbol c.loop-below.top (reverse c.loop-below.below.items) c.loop-below.sites.items f (omega arith) (sym c.in-Plain.ensures)
            ∙ c.loop-below.invariant.reads.same;
      };
      bytes = f.same ∙ c.loop-below.invariant.bytes;
    }

pub loop-below-smaller-in-Plain : goal.loop-below-smaller-in-Plain
loop-below-smaller-in-Plain c = (found (goal.at.loop-below-smaller-in-Plain c).In-Some).fewer

pub loop-below-preserved-in-Continue-branch-4 : goal.loop-below-preserved-in-Continue-branch-4
loop-below-preserved-in-Continue-branch-4 c =
    let f = found (goal.at.loop-below-preserved-in-Continue-branch-4 c).In-Some in
    let past : nested_past c.next.new.self.bytes c.in-Some.symbol.index c.in-Nested.end ≡ Ok c.skip_nested.new.symbols.place =
    ap (λ i. nested_past c.next.new.self.bytes i c.in-Nested.end) (sym c.index-in-Nested.ensures) ∙ c.in_ok-skip_nested-in-Nested.ensures.place in
    record {
      reads = record {
        same = scan_nested c.loop-below.symbols c.next.new.self c.skip_nested.new.symbols c.in-Some.symbol c.loop-below.top (reverse c.loop-below.below.items) c.loop-below.sites.items c.in-Nested.end f (omega arith) (sym c.in-Nested.ensures) past c.in_ok-skip_nested-in-Nested.ensures.bytes
            ∙ c.loop-below.invariant.reads.same;
      };
      bytes = c.in_ok-skip_nested-in-Nested.ensures.bytes ∙ f.same ∙ c.loop-below.invariant.bytes;
    }

pub loop-below-smaller-in-Continue-branch-4 : goal.loop-below-smaller-in-Continue-branch-4
loop-below-smaller-in-Continue-branch-4 c =
    let f = found (goal.at.loop-below-smaller-in-Continue-branch-4 c).In-Some in
    let past : nested_past c.next.new.self.bytes c.in-Some.symbol.index c.in-Nested.end ≡ Ok c.skip_nested.new.symbols.place =
    ap (λ i. nested_past c.next.new.self.bytes i c.in-Nested.end) (sym c.index-in-Nested.ensures) ∙ c.in_ok-skip_nested-in-Nested.ensures.place in
    nested_fewer c.loop-below.symbols c.next.new.self c.skip_nested.new.symbols c.in-Some.symbol c.in-Nested.end f past c.in_ok-skip_nested-in-Nested.ensures.bytes

pub returns-in_err-skip_nested-in-Nested : goal.returns-in_err-skip_nested-in-Nested
returns-in_err-skip_nested-in-Nested c =
    let f = found (goal.at.returns-in_err-skip_nested-in-Nested c).In-Some in
    let read = reads_fault (λ (n : Unit {0}). c.skip_nested.new.symbols.place) (λ (n : List Site). n) c.in_err-skip_nested-in-Nested.field-0.0
    (nested_past c.next.new.self.bytes c.index-in-Nested.result.0 c.in-Nested.end) (sites_from c.args.symbols.now.bytes c.args.limit c.args.symbols.now.place)
    (λ fault past. sym c.loop-below.invariant.reads.same
    ∙ scan_refused c.loop-below.symbols c.next.new.self c.in-Some.symbol c.loop-below.top (reverse c.loop-below.below.items) c.loop-below.sites.items c.in-Nested.end fault f (omega arith) (sym c.in-Nested.ensures)
    (ap (λ i. nested_past c.next.new.self.bytes i c.in-Nested.end) (sym c.index-in-Nested.ensures) ∙ past))
    c.in_err-skip_nested-in-Nested.ensures.place in
    let d = c.from_residual-in_err-skip_nested-in-Nested.ensures in
    record {
      sites = returned _ c.from_residual-in_err-skip_nested-in-Nested.result c.in_err-skip_nested-in-Nested.field-0.0 _ d.1 read;
      bytes = search rules;
    }

pub returns-in_err-number-in-Call : goal.returns-in_err-number-in-Call
returns-in_err-number-in-Call c =
    let f = found (goal.at.returns-in_err-number-in-Call c).In-Some in
    let read = reads_fault (λ (n : ℕ). (n, c.loop-below.sites.items)) (λ (n : List Site). n) c.in_err-number-in-Call.field-0.0
    (with_site c.loop-below.sites.items c.loop-below.top.site c.len.result (inline_site_form c.in-Call.call)) (sites_from c.args.symbols.now.bytes c.args.limit c.args.symbols.now.place)
    (λ fault refused. sym c.loop-below.invariant.reads.same
    ∙ scan_deep c.loop-below.symbols c.next.new.self c.in-Some.symbol c.loop-below.top c.loop-below.below.items c.loop-below.sites.items (inline_site_form c.in-Call.call) c.len.result fault f (omega arith) (sym c.in-Call.ensures)
    (omega (arith, c.loop-below.below.ok.0, c.len.ensures)) refused)
    c.in_err-number-in-Call.ensures in
    let d = c.from_residual-in_err-number-in-Call.ensures in
    record {
      sites = returned _ c.from_residual-in_err-number-in-Call.result c.in_err-number-in-Call.field-0.0 _ d.1 read;
      bytes = search rules;
    }

pub loop-below-smaller : goal.loop-below-smaller
loop-below-smaller c = (found (goal.at.loop-below-smaller c).In-Some).fewer

pub loop-below-preserved : goal.loop-below-preserved
loop-below-preserved c =
    let f = found (goal.at.loop-below-preserved c).In-Some in
    record {
      reads = record {
        same = scan_site c.loop-below.symbols c.next.new.self c.in-Some.symbol c.loop-below.top c.loop-below.below.items c.push.new.self.items c.loop-below.sites.items c.push_site.new.sites.items (inline_site_form c.in-Call.call) c.len.result c.in_ok-number-in-Call.number f (omega arith) (sym c.in-Call.ensures)
            (omega (arith, c.loop-below.below.ok.0, c.len.ensures)) c.in_ok-number-in-Call.ensures c.in_ok-push-in-Call.ensures.items
            ∙ c.loop-below.invariant.reads.same;
      };
      bytes = f.same ∙ c.loop-below.invariant.bytes;
    }

pub returns : goal.returns
returns c =
    let none : symbol_of (found_next c.loop-below.symbols) ≡ Ok None = c.in_ok-symbol.ensures.step.0 ∙ ap (λ (o : Option Symbol). Ok o) c.in_default.is in
    record {
      sites = sym c.loop-below.invariant.reads.same ∙ scan_ended c.loop-below.symbols (c.loop-below.top ∷ reverse c.loop-below.below.items) c.loop-below.sites.items none;
      bytes = behind_same c.loop-below.symbols c.next.new.self c.in_ok-symbol.ensures.step.1 ∙ c.loop-below.invariant.bytes;
    }
