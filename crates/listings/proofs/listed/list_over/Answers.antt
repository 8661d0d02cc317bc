use Rattle.std.proofs.Common.{vec_items, ap, ◌∙◌}
use Rattle.register.specs.Meaning.{world}
use Rattle.listings.specs.Text.{listing_text}
use Rattle.listings.proofs.listed.list_over.Goals as goal

pub returns : goal.returns
returns g c =
    let finished = c.in-Ok.finished in
    record {
      outcomes = vec_items finished.outcomes;
      fault = finished.fault;
      left = world g.R.Row.stores finished.register;
      run = c.in-Ok.ensures.finished;
      lines = c.in_ok-listing_text.ensures ∙ ap (λ os. listing_text os finished.fault) c.as_slice.ensures.value;
    }
