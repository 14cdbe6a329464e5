-- An output that keeps a text keeps what the calls render to, and one that records its calls keeps them, each as itself or as its body's calls. Serves laws::expansion_renders_alike,
-- laws::list_is_expanded, laws::text_is_rendered, laws::whole_list_is_calls; crates above.
pub mod RenderLaws
