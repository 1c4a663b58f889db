-- The first words of generated steps.
use Rattle.std.proofs.Common.{◌≡◌, true, false, Some, refl}
use Rattle.std.specs.Prelude.{codes}
use Rattle.sf_script.specs.Keywords.{consumer_form_of, keyword_of, plain_keyword_of, producer_form_of, transaction_form_of}
use Rattle.sf_script.specs.declared.line.Keyword.TheVariants as key
use Rattle.sf_script.specs.declared.line.QueueForm.TheVariants as queue
use Rattle.sf_script.specs.declared.line.Side.TheVariants as side
use Rattle.sf_script.specs.declared.line.StepForm.TheVariants as form

pub connect_known : keyword_of false true (codes "connect") ≡ Some (key.Step (form.OnQueue queue.Connect))
unfolding plain_keyword_of producer_form_of consumer_form_of transaction_form_of
connect_known = refl

pub maxdequeued_known : keyword_of false true (codes "maxdequeued") ≡ Some (key.Step (form.Most side.Producer))
unfolding plain_keyword_of producer_form_of consumer_form_of transaction_form_of
maxdequeued_known = refl

pub async_known : keyword_of false true (codes "async") ≡ Some (key.Step (form.Async))
unfolding plain_keyword_of producer_form_of consumer_form_of transaction_form_of
async_known = refl

pub dequeuewait_known : keyword_of false true (codes "dequeuewait") ≡ Some (key.Step (form.Dequeue true))
unfolding plain_keyword_of producer_form_of consumer_form_of transaction_form_of
dequeuewait_known = refl

pub request_known : keyword_of false true (codes "request") ≡ Some (key.Step (form.Request))
unfolding plain_keyword_of producer_form_of consumer_form_of transaction_form_of
request_known = refl

pub draw_known : keyword_of false true (codes "draw") ≡ Some (key.Step (form.Draw))
unfolding plain_keyword_of producer_form_of consumer_form_of transaction_form_of
draw_known = refl

pub queue_known : keyword_of false true (codes "queue") ≡ Some (key.Step (form.Queue))
unfolding plain_keyword_of producer_form_of consumer_form_of transaction_form_of
queue_known = refl

pub acquire_known : keyword_of false true (codes "acquire") ≡ Some (key.Step (form.Acquire))
unfolding plain_keyword_of producer_form_of consumer_form_of transaction_form_of
acquire_known = refl

pub tx_known : keyword_of false true (codes "tx") ≡ Some (key.Step (form.Tx))
unfolding plain_keyword_of producer_form_of consumer_form_of transaction_form_of
tx_known = refl

pub buffer_known : keyword_of false true (codes "buffer") ≡ Some (key.Step (form.Buffer))
unfolding plain_keyword_of producer_form_of consumer_form_of transaction_form_of
buffer_known = refl

pub apply_known : keyword_of false true (codes "apply") ≡ Some (key.Step (form.Apply))
unfolding plain_keyword_of producer_form_of consumer_form_of transaction_form_of
apply_known = refl

pub set_known : keyword_of false true (codes "set") ≡ Some (key.Step (form.Set))
unfolding plain_keyword_of producer_form_of consumer_form_of transaction_form_of
set_known = refl
