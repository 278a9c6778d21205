pub mod UnusableLaws
