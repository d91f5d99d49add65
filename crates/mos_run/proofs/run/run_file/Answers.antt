-- What the source over the file told in the run is put in place of the fault.
use Rattle.std.proofs.Common.{◌≡◌, ◌≤◌, ap, sym, subst, ◌∙◌, inl, inr, ⊎_elim}
use Rattle.mos_bytes.specs.Causes.{Rose}
use Rattle.pcapng_source.specs.Sources.{any_faults, any_source}
use Rattle.mos_run.specs.Explained.{explained}
use Rattle.mos_run.specs.Runs.{wanted_by}
use Rattle.mos_run.proofs.Files.{fault_before, file_comes, late_after, ok_before, read_by, silent_after, start_is, whole_is, write_before}
use Rattle.mos_run.proofs.run.run_file.Goals as goal

pub returns : goal.returns
returns g c =
    let made = c.new-source.ensures in
    let run = c.run_asked-ran.ensures.ran in
    let stands = c.fault.ensures.stands in
    let result = c.run_asked-ran.result in
    let a = c.new-source.result in
    let b = c.run_asked-ran.new.capture in
    let s0 = c.args.capture.now in
    let taken = g.O.Sink.taken in
    let whole = whole_is g.S.Source a b s0 made.start made.left run.from.lasts stands in
    let start = start_is g.S.Source a b s0 made.start made.left run.from.lasts stands in
    let back : c.capture-1.given.0 ≡ any_source b = c.capture-1.given.1 (sym made.name ∙ sym (ap (λ l. l.0) run.from.lasts)) ∙ c.drop-source.ensures.below in
    let is = c.explain.ensures ∙ ap (λ f. explained f result) c.fault.ensures.met in
    record {
      ran = rw (is, back) (record {
        comes_to = file_comes g.S.Source a b s0 made.start made.left run.from.lasts stands (wanted_by g.A.App.meaning c.args.task.now) (taken c.args.out.now) (taken c.run_asked-ran.new.out) result
            c.refused_files_begin_with_a_header.ensures made.fault run.comes_to run.made
            (λ none. (run.reads none).ended)
            (λ none kept. ⊎_elim (λ idle. inl (ap taken idle.0, idle.1)) (λ end. inr end) ((run.reads none).begun kept))
            (λ none. (run.reads none).cut);
        read = λ ok none bytes told. read_by (g.S.Source.left s0) (g.S.Source.left (any_source b)) bytes told (whole ((run.reads none).ended (inl (ok_before _ result ok))));
        made = λ some. ap (λ x. any_source x) (run.made some) ∙ made.source;
        silent = λ kept. silent_after _ _ result (run.silent kept);
        late = late_after _ result;
        from = record {
          cause = record {
            later = subst (λ x. g.S.Source.faults x ≤ g.S.Source.faults (any_source b)) start stands.later;
            cause = λ fault.
                let both = fault_before _ result fault in
                subst (λ n. Rose n (g.S.Source.faults (any_source b))) made.faults
                (subst (λ n. Rose (any_faults a) n) (stands.unmet both.1) (run.from.cause.cause both.0));
          };
          lasts = ap (λ l. l.2) run.from.lasts ∙ ap g.S.Source.lasting made.source;
        };
        to = record {
          cause = record { later = run.to.cause.later; cause = λ fault. run.to.cause.cause (write_before _ result fault) };
          lasts = run.to.lasts;
        };
      });
    }
