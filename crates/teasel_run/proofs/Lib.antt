-- The status of what a run comes to, and why it stops. Serves run::carry_out, run::run_texts.
mod RunLaws
